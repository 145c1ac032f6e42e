use Rattle.power_bounds.proofs.Prelude.{ℕ, ◌+◌, ◌-◌, ◌<◌, ◌≤◌, has_node, sets}
use Rattle.power_bounds.specs.Prelude.{PowerStaysAt}
use Rattle.power_bounds.proofs.power.power_always.Given as goal

abbrev pub invariant-periods : goal.invariant-periods
invariant-periods l = record {
  most : l.from ≤ l.p.given.horizon + 1;
  stays : (t : ℕ) → t < l.from → PowerStaysAt l.p.given (sets l.g) (has_node l.bound.nodes) l.bound.amount t;
}

abbrev pub decreases-periods : goal.decreases-periods
decreases-periods l = l.p.given.horizon + 1 - l.from
