use Rattle.closing.proofs.Prelude.{ℕ, ◌<◌, IsClean, load_watch, sets}
use Rattle.closing.proofs.closed.are_loads_clean.Given as goal

abbrev pub invariant-loop-i : goal.invariant-loop-i
invariant-loop-i l = (k : ℕ) → k < l.i → IsClean (load_watch l.p.given k) l.p.given (sets l.g)
