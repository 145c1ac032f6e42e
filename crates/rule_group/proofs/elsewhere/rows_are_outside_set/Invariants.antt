use Rattle.rule_group.proofs.Prelude.{slice_index_or, ◌<◌, ℕ}
use Rattle.rule_group.specs.Prelude.{has_node, IsOut, no_row}
use Rattle.rule_group.proofs.elsewhere.rows_are_outside_set.Given as goal

abbrev pub invariant-loop-k : goal.invariant-loop-k
invariant-loop-k l = (j : ℕ) → j < l.k → IsOut l.p.given l.h (has_node l.set) (slice_index_or l.rows j no_row).place
