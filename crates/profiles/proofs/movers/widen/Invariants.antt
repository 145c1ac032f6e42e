use Rattle.profiles.proofs.Prelude.{◌≡◌, ◌≤◌, ℕ, slice_index_or, vec_len}
use Rattle.profiles.proofs.movers.widen.Given as goal

abbrev pub invariant-loop : goal.invariant-loop
invariant-loop l = record {
  same : (v : ℕ) → slice_index_or l.ranks.items v 0 ≡ slice_index_or l.initial.ranks.items v 0;
  more : vec_len l.initial.ranks ≤ vec_len l.ranks;
  len : vec_len l.ranks ≡ l.counter;
}
