use Rattle.base.proofs.Public.{length, slice_index_or, ℕ, ◌≡◌, ◌≤◌}
use Rattle.std.proofs.Common.{◌/◌, ◌%◌}
use Rattle.std.specs.Int.{bit_at}
use Rattle.machine_bounds.specs.Prelude.{max_nodes}
use Rattle.machine_bounds.proofs.ends.enough_of.Given as goal

abbrev pub invariant-loop-i : goal.invariant-loop-i
invariant-loop-i l = record {
  count : length l.enough ≡ 16;
  each : (j : ℕ) → bit_at (slice_index_or l.enough (j / 64) 0) (j % 64) ≡ 1 → slice_index_or l.until (j % max_nodes) 0 ≤ slice_index_or l.bounds j 0;
}
