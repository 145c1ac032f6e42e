use Rattle.closing.proofs.Prelude.{◌≢◌, ℕ, ◌<◌, get_or, sets, StaysClear, VmId}
use Rattle.closing.proofs.quick.apart.keeps_clear.Given as goal

abbrev pub invariant-loop-i : goal.invariant-loop-i
invariant-loop-i l = (k : ℕ) (d : VmId) → k < l.i → l.v.0 ≢ (get_or l.machines k d).0 → StaysClear l.p.given (sets l.g) l.t l.v.0 (get_or l.machines k d).0
