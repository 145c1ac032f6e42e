use Rattle.load_bounds.proofs.Prelude.{ℕ, ◌<◌, slice_index_or, no_row}
use Rattle.load_bounds.specs.Prelude.{GoesOn}
use Rattle.load_bounds.proofs.hold_on.all_go_on.Given as goal

abbrev pub invariant-loop-i : goal.invariant-loop-i
invariant-loop-i l = (k : ℕ) → k < l.i → GoesOn l.p.given l.v.0 (slice_index_or l.rows k no_row).place
