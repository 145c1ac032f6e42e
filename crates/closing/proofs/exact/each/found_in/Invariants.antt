use Rattle.closing.proofs.Prelude.{ℕ, ◌<◌, get_or, IsFreeOf, sets, VmId}
use Rattle.closing.proofs.exact.each.found_in.Given as goal

abbrev pub invariant-loop-i : goal.invariant-loop-i
invariant-loop-i g l = (k : ℕ) (d : VmId) → k < l.i → IsFreeOf (g.M.OfMachine.met l.each l.p.given (get_or l.machines k d).0) l.p.given (sets l.g) l.t
