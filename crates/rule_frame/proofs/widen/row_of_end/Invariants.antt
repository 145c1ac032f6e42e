use Rattle.rule_frame.proofs.Prelude.{◌≢◌, ℕ, ◌<◌, slice_index_or, no_row}
use Rattle.rule_frame.proofs.widen.row_of_end.Given as goal

abbrev pub invariant-loop-i : goal.invariant-loop-i
invariant-loop-i l = (k : ℕ) → k < l.i → (slice_index_or l.rows k no_row).place ≢ l.place
