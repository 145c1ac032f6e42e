use Rattle.std.proofs.Common.{◌≡◌, ℕ, ◌<◌, length, slice_index_or}
use Rattle.cluster.specs.declared.choices.Choice.TheVariants.{Idle}
use Rattle.repair.specs.Prelude.{choices_of, element_at, inventory_of, phases_of, rest_choices}
use Rattle.repair.proofs.going_on.rest_choices.Given as goal

abbrev pub invariant-loop-x : goal.invariant-loop-x
invariant-loop-x l = record {
  count : length l.choices.items ≡ l.x;
  each : (y : ℕ) → y < l.x → slice_index_or l.choices.items y Idle ≡ rest_choices (choices_of l.plan) (phases_of l.m) (element_at (inventory_of l.p.given) y);
}
