use Rattle.rule_setload.proofs.Prelude.{◌+◌, ◌-◌, ◌≤◌}
use Rattle.rule_setload.proofs.propose.spares.Given as goal

abbrev pub invariant-periods : goal.invariant-periods
invariant-periods l = l.from ≤ l.p.given.horizon + 1

abbrev pub decreases-periods : goal.decreases-periods
decreases-periods l = l.p.given.horizon + 1 - l.from
