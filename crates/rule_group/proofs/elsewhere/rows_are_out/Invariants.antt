use Rattle.rule_group.proofs.Prelude.{slice_index_or, ◌<◌, ℕ}
use Rattle.rule_group.specs.Prelude.{group_nodes, groups_seen, IsOut, no_row}
use Rattle.rule_group.proofs.elsewhere.rows_are_out.Given as goal

abbrev pub invariant-loop-k : goal.invariant-loop-k
invariant-loop-k l = (j : ℕ) → j < l.k → IsOut l.p.given l.h (group_nodes (groups_seen l.groups) l.i) (slice_index_or l.rows j no_row).place
