use Rattle.std.proofs.Common.{◌≡◌, ℕ, ◌<◌, length, slice_index_or, None}
use Rattle.executor.specs.Prelude.{choices_of, element_at, inventory_of, times_of}
use Rattle.executor.proofs.times.all_times.Given as goal

abbrev pub invariant-loop-x : goal.invariant-loop-x
invariant-loop-x l = record {
  count : length l.times.items ≡ l.x;
  each : (y : ℕ) → y < l.x →
      slice_index_or l.times.items y None ≡ times_of l.p.given (element_at (inventory_of l.p.given) y) (choices_of l.plan (element_at (inventory_of l.p.given) y));
}
