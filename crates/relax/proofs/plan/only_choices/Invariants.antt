use Rattle.relax.proofs.Prelude.{◌≡◌, ℕ, ◌<◌, [], ◌∷◌, length, slice_index_or, element_at, inventory_of, sets, Idle}
use Rattle.relax.proofs.plan.only_choices.Given as goal

abbrev pub invariant-loop-x : goal.invariant-loop-x
invariant-loop-x l = record {
  count : length l.choices.items ≡ l.x;
  each : (k : ℕ) → k < l.x → sets l.g (element_at (inventory_of l.p.given) k) ≡ slice_index_or l.choices.items k Idle ∷ [];
}
