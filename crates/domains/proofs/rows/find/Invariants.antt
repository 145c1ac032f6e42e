use Rattle.base.proofs.Public.{ℕ, ◌-◌, ◌<◌, ◌≤◌, length, slice_index_or}
use Rattle.domains.specs.Prelude.{place_index, Row}
use Rattle.domains.proofs.rows.find.Given as goal

abbrev pub invariant-loop-from : goal.invariant-loop-from
invariant-loop-from l = record {
  order : l.from ≤ l.to;
  within : l.to ≤ length l.rows;
  below : (k : ℕ) (d : Row) → k < l.from → place_index (slice_index_or l.rows k d).place < l.key;
  above : (k : ℕ) (d : Row) → l.to ≤ k → k < length l.rows → l.key < place_index (slice_index_or l.rows k d).place;
}

abbrev pub decreases-loop-from : goal.decreases-loop-from
decreases-loop-from l = l.to - l.from
