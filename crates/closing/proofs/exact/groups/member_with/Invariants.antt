use Rattle.closing.proofs.Prelude.{ℕ, ◌<◌, get_or, FailAtEnds, IsGroupWith, sets, vm, VmId}
use Rattle.closing.proofs.exact.groups.member_with.Given as goal

abbrev pub invariant-loop-i : goal.invariant-loop-i
invariant-loop-i l = (k : ℕ) (d : VmId) → k < l.i → FailAtEnds (IsGroupWith l.p.given (sets l.g) l.constraint l.t (get_or l.machines k d).0) (sets l.g (vm (get_or l.machines k d).0))
