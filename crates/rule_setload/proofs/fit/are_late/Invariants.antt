use Rattle.rule_setload.proofs.Prelude.{◌⊎◌, ℕ, ◌<◌, ◌≤◌, length, slice_index_or}
use Rattle.rule_setload.specs.Prelude.{has_node, IsLate, no_row}
use Rattle.rule_setload.proofs.fit.are_late.Given as goal

abbrev pub invariant-loop-i : goal.invariant-loop-i
invariant-loop-i l = (k : ℕ) → k < length l.rows → (k < l.i) ⊎ (l.i-end ≤ k) → IsLate (has_node l.nodes) l.by (slice_index_or l.rows k no_row)
