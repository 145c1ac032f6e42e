use Rattle.closing.proofs.Prelude.{◌≢◌, ℕ, ◌<◌, get_or, IsMember, sets, StaysClear, VmId}
use Rattle.closing.proofs.quick.apart.are_apart.Given as goal

abbrev pub invariant-loop-i : goal.invariant-loop-i
invariant-loop-i l = (k : ℕ) (d : VmId) → k < l.i → (w : ℕ) → IsMember l.others w → (get_or l.machines k d).0 ≢ w → StaysClear l.p.given (sets l.g) l.t (get_or l.machines k d).0 w
