use Rattle.rule_setload.proofs.Prelude.{ℕ, ◌-◌, ◌<◌, ◌≤◌, length, slice_index_or}
use Rattle.rule_setload.specs.Prelude.{no_row, place_index}
use Rattle.rule_setload.proofs.span.count_before.Given as goal

abbrev pub invariant-loop-from : goal.invariant-loop-from
invariant-loop-from l = record {
  order : l.from ≤ l.to;
  within : l.to ≤ length l.rows;
  before : (k : ℕ) → k < l.from → place_index (slice_index_or l.rows k no_row).place ≤ l.n;
  behind : (k : ℕ) → l.to ≤ k → k < length l.rows → l.n < place_index (slice_index_or l.rows k no_row).place;
}

abbrev pub decreases-loop-from : goal.decreases-loop-from
decreases-loop-from l = l.to - l.from
