use Rattle.std.proofs.Common.{◌+◌, ◌≤◌}
use Rattle.rule_load.proofs.total_look.free_until.Given as goal

abbrev pub invariant-halves : goal.invariant-halves
invariant-halves l = record {
  later : l.next ≤ l.until;
  most : l.until ≤ l.p.given.horizon + 1;
}

abbrev pub decreases-halves : goal.decreases-halves
decreases-halves l = l.until
