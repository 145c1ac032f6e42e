use Rattle.rule_setload.proofs.Prelude.{◌*◌, ◌≤◌, take, AreExtra, has_node, max_amount, sets}
use Rattle.rule_setload.proofs.movers_hold.extra_of.Given as goal

abbrev pub invariant-loop-i : goal.invariant-loop-i
invariant-loop-i l = record {
  extra : AreExtra l.p.given (sets l.g) l.bound.weight (has_node l.bound.nodes) (take l.i l.machines) l.total;
  small : l.total ≤ l.i * max_amount;
}
