use Rattle.base.proofs.Public.{◌≡◌, ℕ, [], length}
use Rattle.partition.specs.Cutting.{list_at}
use Rattle.partition.proofs.sharing.empty_lists.Given as goal

abbrev pub invariant-loop-i : goal.invariant-loop-i
invariant-loop-i l = record {
  each : length l.lists.items ≡ l.i;
  empty : (j : ℕ) → list_at l.lists.items j ≡ [];
}
