use Rattle.std.proofs.Common.{◌≡◌, ℕ, ◌<◌, ◌≤◌, length, slice_index_or}
use Rattle.repair.specs.Prelude.{demand_of, max_resources}
use Rattle.repair.proofs.ended.demands.Given as goal

abbrev pub invariant-loop-r : goal.invariant-loop-r
invariant-loop-r l = record {
  places : length l.usage ≡ max_resources;
  listed : (r : ℕ) → r < l.r → slice_index_or l.usage r 0 ≡ demand_of l.p.given l.v.0 r;
  past : (r : ℕ) → l.r ≤ r → slice_index_or l.usage r 0 ≡ 0;
}
