use Rattle.rule_load.proofs.Prelude.{ℕ, ◌+◌, ◌-◌, ◌<◌, ◌≤◌, IsFreeOf, IsOverloaded, one, sets, StartNoSooner}
use Rattle.rule_load.proofs.node_look.first_doubt.Given as goal

abbrev pub invariant-periods : goal.invariant-periods
invariant-periods l = record {
  most : l.from ≤ l.p.given.horizon + 1;
  start : StartNoSooner l.p.given l.kept.near.now l.kept.firsts.now l.start;
  clean : (t : ℕ) → t < l.from → IsFreeOf (IsOverloaded l.p.given (one l.n.0)) l.p.given (sets l.g) t;
}

abbrev pub decreases-periods : goal.decreases-periods
decreases-periods l = l.p.given.horizon + 1 - l.from
