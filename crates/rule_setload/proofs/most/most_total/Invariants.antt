use Rattle.rule_setload.proofs.Prelude.{ℕ, ◌*◌, ◌≤◌, max_amount}
use Rattle.rule_setload.specs.Prelude.{has_node, IsDuring, sets, sum_to, sure}
use Rattle.rule_setload.proofs.most.most_total.Given as goal

abbrev pub invariant-loop-i : goal.invariant-loop-i
invariant-loop-i l = record {
  within : (t : ℕ) → IsDuring l.x t → sum_to l.i (λ k. (sure l.p.given (sets l.g) t).held k l.bound.weight (has_node l.bound.nodes)) ≤ l.total;
  small : l.total ≤ l.i * (2 * max_amount);
}
