use Rattle.base.proofs.Public.{◌≡◌, take}
use Rattle.picture.specs.Prelude.{choices_of, steps_of}
use Rattle.picture.proofs.curves.steps.Given as goal

abbrev pub invariant-loop-i : goal.invariant-loop-i
invariant-loop-i l = l.steps.items ≡ steps_of l.p.given (choices_of l.plan) l.n.0 l.r (take l.i l.instants)
