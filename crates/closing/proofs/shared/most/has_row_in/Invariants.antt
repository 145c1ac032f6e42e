use Rattle.closing.proofs.Prelude.{◌≡◌, ℕ, ◌<◌, false, slice_index_or, Act, goes_in, no_row, nodes_of}
use Rattle.closing.proofs.shared.most.has_row_in.Given as goal

abbrev pub invariant-loop-row : goal.invariant-loop-row
invariant-loop-row l = (k : ℕ) → k < l.row-index → goes_in (Act (slice_index_or l.rows k no_row).place (slice_index_or l.rows k no_row).lo) (nodes_of l.p.given l.area) ≡ false
