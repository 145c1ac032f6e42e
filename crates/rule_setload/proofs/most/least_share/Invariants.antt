use Rattle.rule_setload.proofs.Prelude.{◌≤◌}
use Rattle.rule_setload.specs.Prelude.{has_node, HoldsMost, sets}
use Rattle.rule_setload.proofs.most.least_share.Given as goal

abbrev pub invariant-loop-i : goal.invariant-loop-i
invariant-loop-i l = record {
  most : HoldsMost l.p.given (sets l.g) l.bound.weight (has_node l.bound.nodes) l.v.0 l.x l.least;
  small : l.least ≤ l.most;
}
