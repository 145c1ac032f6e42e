use Rattle.quick_checks.proofs.Prelude.{slice_index_or, ◌<◌, ℕ, nodes_of}
use Rattle.quick_checks.specs.Prelude.{GoesInto, no_row}
use Rattle.quick_checks.proofs.elsewhere.rows_go_into.Given as goal

abbrev pub invariant-loop-k : goal.invariant-loop-k
invariant-loop-k l = (j : ℕ) → j < l.k → GoesInto l.p.given l.h (nodes_of l.p.given l.area) (slice_index_or l.rows j no_row).place
