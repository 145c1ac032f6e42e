use Rattle.closing.proofs.Prelude.{ℕ, ◌<◌, IsClean, sets, usable_watch}
use Rattle.closing.proofs.closed.are_usable_clean.Given as goal

abbrev pub invariant-loop-i : goal.invariant-loop-i
invariant-loop-i l = (k : ℕ) → k < l.i → IsClean (usable_watch l.p.given k) l.p.given (sets l.g)
