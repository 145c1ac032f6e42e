use Rattle.std.proofs.Common.{◌≡◌, ℕ, ◌<◌, length}
use Rattle.executor.specs.Prelude.{choices_of, element_at, first_phase, inventory_of, phase_at}
use Rattle.executor.proofs.phases.first_phases.Given as goal

abbrev pub invariant-loop-x : goal.invariant-loop-x
invariant-loop-x l = record {
  rows : length l.phases.items ≡ l.x;
  first : (y : ℕ) → y < l.x → phase_at l.phases.items y ≡ first_phase (choices_of l.plan (element_at (inventory_of l.p.given) y));
}
