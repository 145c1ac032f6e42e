use Rattle.std.proofs.Common.{◌≡◌, ℕ, ◌+◌, ◌<◌, ◌≤◌, slice_index}
use Rattle.judge.specs.Prelude.{Amount, weight_of}
use Rattle.judge.proofs.loads.add_row.Given as goal

abbrev pub invariant-loop-r : goal.invariant-loop-r
invariant-loop-r l = record {
  added : (q : ℕ) → q < l.r → slice_index l.row q ≡ slice_index l.initial.row q + weight_of l.p.given l.v.0 (Amount q) l.what;
  left : (q : ℕ) → l.r ≤ q → slice_index l.row q ≡ slice_index l.initial.row q;
  small : (q : ℕ) → slice_index l.row q ≤ slice_index l.initial.row q + 1_000_000_000;
}
