use Rattle.rule_group.proofs.Prelude.{slice_index_or, ◌<◌, ◌≤◌, ℕ}
use Rattle.rule_group.specs.Prelude.{Act, end_of, no_row, vm}
use Rattle.rule_group.proofs.ordered.rows_end_by.Given as goal

abbrev pub invariant-loop-i : goal.invariant-loop-i
invariant-loop-i l = record {
  first : (j : ℕ) → j < l.i → end_of l.p.given (vm l.v.0) (Act (slice_index_or l.rows j no_row).place (slice_index_or l.rows j no_row).lo) ≤ l.by;
  last : (j : ℕ) → j < l.i → end_of l.p.given (vm l.v.0) (Act (slice_index_or l.rows j no_row).place (slice_index_or l.rows j no_row).hi) ≤ l.by;
}
