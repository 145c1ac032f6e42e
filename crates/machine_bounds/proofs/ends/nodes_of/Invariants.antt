use Rattle.base.proofs.Public.{length, slice_index_or, ℕ, ◌<◌, ◌≡◌}
use Rattle.std.proofs.Common.{◌/◌, ◌%◌}
use Rattle.std.specs.Int.{bit_at}
use Rattle.machine_bounds.proofs.ends.nodes_of.Given as goal

abbrev pub invariant-loop-n : goal.invariant-loop-n
invariant-loop-n l = record {
  count : length l.nodes ≡ 8;
  each : (k : ℕ) → k < l.n → l.from < slice_index_or l.until k 0 → bit_at (slice_index_or l.nodes (k / 64) 0) (k % 64) ≡ 1;
}
