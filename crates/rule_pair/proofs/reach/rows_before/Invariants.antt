use Rattle.rule_pair.proofs.Prelude.{length, slice_index_or, ℕ, ◌<◌, ◌≤◌, no_row}
use Rattle.std.proofs.Common.{◌-◌}
use Rattle.rule_pair.specs.Prelude.{place_index}
use Rattle.rule_pair.proofs.reach.rows_before.Given as goal

abbrev pub invariant-loop-low : goal.invariant-loop-low
invariant-loop-low l = record {
  order : l.low ≤ l.high;
  within : l.high ≤ length l.rows;
  before : (k : ℕ) → k < l.low → place_index (slice_index_or l.rows k no_row).place < l.number;
}

abbrev pub decreases-loop-low : goal.decreases-loop-low
decreases-loop-low l = l.high - l.low
