use Rattle.load_bounds.proofs.Prelude.{ℕ, ◌<◌, Contains, Idle, sets, vm}
use Rattle.load_bounds.specs.Prelude.{HoldsOn}
use Rattle.load_bounds.proofs.hold_on.stayers_hold_on.Given as goal

abbrev pub invariant-loop-i : goal.invariant-loop-i
invariant-loop-i l = (v : ℕ) → v < l.i → Contains (sets l.g (vm v)) Idle → HoldsOn l.p.given (sets l.g) v
