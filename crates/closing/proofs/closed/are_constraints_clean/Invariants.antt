use Rattle.closing.proofs.Prelude.{ℕ, ◌<◌, constraint_watch, IsClean, sets}
use Rattle.closing.proofs.closed.are_constraints_clean.Given as goal

abbrev pub invariant-loop-c : goal.invariant-loop-c
invariant-loop-c l = (k : ℕ) → k < l.c → IsClean (constraint_watch l.p.given k) l.p.given (sets l.g)
