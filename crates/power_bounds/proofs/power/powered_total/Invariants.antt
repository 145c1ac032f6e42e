use Rattle.power_bounds.proofs.Prelude.{◌≡◌, ◌≤◌, has_node, sets}
use Rattle.power_bounds.specs.Prelude.{power_most, sum_to}
use Rattle.power_bounds.proofs.power.powered_total.Given as goal

abbrev pub invariant-loop-i : goal.invariant-loop-i
invariant-loop-i l = record {
  total : l.total ≡ sum_to l.i (power_most l.p.given (sets l.g) (has_node l.nodes) l.x);
  small : l.total ≤ l.i;
}
