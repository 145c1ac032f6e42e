use Rattle.base.proofs.Public.{◌≡◌, map, take}
use Rattle.picture.specs.Prelude.{choices_of, powered_step}
use Rattle.picture.proofs.counts.powered_curve.Given as goal

abbrev pub invariant-loop-t : goal.invariant-loop-t
invariant-loop-t l = l.steps.items ≡ map (powered_step l.p.given (choices_of l.plan)) (take l.t-index l.instants)
