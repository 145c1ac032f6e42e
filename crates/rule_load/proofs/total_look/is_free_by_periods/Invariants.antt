use Rattle.rule_load.proofs.Prelude.{ℕ, ◌+◌, ◌-◌, ◌<◌, ◌≤◌, all_nodes, IsFreeOf, IsOverloaded, sets}
use Rattle.rule_load.proofs.total_look.is_free_by_periods.Given as goal

abbrev pub invariant-periods : goal.invariant-periods
invariant-periods l = record {
  most : l.from ≤ l.p.given.horizon + 1;
  clean : (t : ℕ) → t < l.from → IsFreeOf (IsOverloaded l.p.given (all_nodes l.p.given)) l.p.given (sets l.g) t;
}

abbrev pub decreases-periods : goal.decreases-periods
decreases-periods l = l.p.given.horizon + 1 - l.from
