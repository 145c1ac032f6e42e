use Rattle.rule_group.proofs.Prelude.{slice_index_or, ◌<◌, ◌≤◌, ℕ}
use Rattle.rule_group.specs.Prelude.{no_row}
use Rattle.rule_group.proofs.ordered.rows_start_from.Given as goal

abbrev pub invariant-loop-i : goal.invariant-loop-i
invariant-loop-i l = record {
  first : (j : ℕ) → j < l.i → l.from ≤ (slice_index_or l.rows j no_row).lo;
  last : (j : ℕ) → j < l.i → l.from ≤ (slice_index_or l.rows j no_row).hi;
}
