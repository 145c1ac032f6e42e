use Rattle.base.proofs.Public.{◌≡◌, ◌++◌, drop}
use Rattle.picture.specs.Prelude.{steps_text}
use Rattle.picture.proofs.printing.put_steps.Given as goal

abbrev pub invariant-loop-step : goal.invariant-loop-step
invariant-loop-step l = l.paper.text.items ++ steps_text l.span l.curve l.y (drop l.step-index l.curve.steps.items) ≡ l.initial.paper.text.items ++ steps_text l.span l.curve l.curve.base l.curve.steps.items
