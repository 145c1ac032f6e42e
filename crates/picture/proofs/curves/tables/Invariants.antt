use Rattle.base.proofs.Public.{◌≡◌, ◌<◌, ℕ, [], length, slice_index_or}
use Rattle.judge.specs.Prelude.{cell, loads_of, snapshot_at}
use Rattle.picture.specs.Prelude.{choices_of}
use Rattle.picture.proofs.curves.tables.Given as goal

abbrev pub invariant-loop-t : goal.invariant-loop-t
invariant-loop-t l = record {
  count : length l.tables.items ≡ l.t-index;
  each : (k n r : ℕ) → k < l.t-index → r < length l.p.given.resources → cell (slice_index_or l.tables.items k []) n r ≡ loads_of l.p.given (snapshot_at l.p.given (choices_of l.plan) (slice_index_or l.instants k 0)) n r;
}
