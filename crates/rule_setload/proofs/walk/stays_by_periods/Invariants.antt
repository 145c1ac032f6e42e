use Rattle.rule_setload.proofs.Prelude.{◌+◌, ◌-◌, ◌≤◌}
use Rattle.rule_setload.specs.Prelude.{has_node, sets, StaysBefore}
use Rattle.rule_setload.proofs.walk.stays_by_periods.Given as goal

abbrev pub invariant-periods : goal.invariant-periods
invariant-periods l = record {
  most : l.from ≤ l.p.given.horizon + 1;
  stays : StaysBefore l.p.given (sets l.g) l.bound.weight (has_node l.bound.nodes) l.bound.amount l.from;
}

abbrev pub decreases-periods : goal.decreases-periods
decreases-periods l = l.p.given.horizon + 1 - l.from
