use Rattle.rule_setload.proofs.Prelude.{◌*◌, ◌≤◌, machine_count}
use Rattle.rule_setload.specs.Prelude.{has_node, max_held, seen, sum_to, sure}
use Rattle.rule_setload.proofs.refuting.listed_are_over.Given as goal

abbrev pub invariant-loop : goal.invariant-loop
invariant-loop l = record {
  total : l.total ≤ sum_to l.low (λ k. (sure l.p.given (seen l.view.region.now l.view.lens) l.t).held k l.bound.weight (has_node l.bound.nodes));
  small : l.total ≤ l.low * max_held;
  within : l.low ≤ machine_count l.p.given;
}
