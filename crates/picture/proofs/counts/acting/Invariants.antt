use Rattle.base.proofs.Public.{◌≡◌, map, take}
use Rattle.picture.specs.Prelude.{acting_step}
use Rattle.picture.proofs.counts.acting.Given as goal

abbrev pub invariant-loop-t : goal.invariant-loop-t
invariant-loop-t l = l.steps.items ≡ map (acting_step l.actions) (take l.t-index l.instants)
