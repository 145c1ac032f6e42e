use Rattle.rule_setload.proofs.Prelude.{◌*◌, ◌≤◌}
use Rattle.rule_setload.specs.Prelude.{has_node, max_held, seen, sum_to, sure}
use Rattle.rule_setload.proofs.refuting.is_over.Given as goal

abbrev pub invariant-loop-i : goal.invariant-loop-i
invariant-loop-i l = record {
  total : l.total ≤ sum_to l.i (λ k. (sure l.p.given (seen l.view.region.now l.view.lens) l.t).held k l.bound.weight (has_node l.bound.nodes));
  small : l.total ≤ l.i * max_held;
}
