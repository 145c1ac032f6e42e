use Rattle.std.proofs.Common.{◌+◌, ◌-◌, ◌≤◌}
use Rattle.rule_load.proofs.suggest.spares.Given as goal

abbrev pub invariant-periods : goal.invariant-periods
invariant-periods l = l.from ≤ l.p.given.horizon + 1

abbrev pub decreases-periods : goal.decreases-periods
decreases-periods l = l.p.given.horizon + 1 - l.from
