use Rattle.rule_place.proofs.Prelude.{ℕ, ◌<◌, get_or, IsAllowed, sets, VmId}
use Rattle.rule_place.proofs.allowed.are_allowed.Given as goal

abbrev pub invariant-loop-i : goal.invariant-loop-i
invariant-loop-i l = (k : ℕ) (d : VmId) → k < l.i → IsAllowed l.p.given (sets l.g) l.constraint (get_or l.machines k d).0
