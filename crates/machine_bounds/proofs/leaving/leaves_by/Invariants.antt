use Rattle.std.specs.Prelude.{ℕ, ◌<◌, ◌≤◌, slice_index_or}
use Rattle.machine_bounds.specs.Prelude.{Act, leave_of, no_row}
use Rattle.machine_bounds.proofs.leaving.leaves_by.Given as goal

abbrev pub invariant-loop-i : goal.invariant-loop-i
invariant-loop-i l = (k : ℕ) → k < l.i → leave_of l.p.given l.v.0 (Act (slice_index_or l.rows k no_row).place (slice_index_or l.rows k no_row).hi) ≤ l.t
