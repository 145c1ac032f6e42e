use Rattle.base.proofs.Public.{◌≡◌, take}
use Rattle.picture.specs.Prelude.{choices_of, heats_of}
use Rattle.picture.proofs.heats.heats_of.Given as goal

abbrev pub invariant-loop-i : goal.invariant-loop-i
invariant-loop-i l = l.heats.items ≡ heats_of l.p.given (choices_of l.plan) l.n.0 (take l.i l.instants)
