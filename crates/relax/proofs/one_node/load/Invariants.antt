use Rattle.relax.proofs.Prelude.{◌≡◌, ◌*◌, ◌-◌, ◌≤◌, Amount, machine_count, max_held, one, seen, sum_to, sure}
use Rattle.relax.proofs.one_node.load.Given as goal

abbrev pub invariant-loop-i : goal.invariant-loop-i
invariant-loop-i l = record {
  total : l.total ≡ sum_to l.i (λ v. (sure l.p.given (seen l.view.region.now l.view.lens) l.t).held v (Amount l.r) (one l.n.0));
  small : l.total ≤ l.i * max_held;
  within : l.i ≤ machine_count l.p.given;
}

abbrev pub decreases-loop-i : goal.decreases-loop-i
decreases-loop-i l = machine_count l.p.given - l.i
