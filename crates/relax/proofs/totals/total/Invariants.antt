use Rattle.relax.proofs.Prelude.{◌≡◌, ◌*◌, ◌≤◌, max_held, nodes_of, seen, sum_to, sure}
use Rattle.relax.proofs.totals.total.Given as goal

abbrev pub invariant-loop-v : goal.invariant-loop-v
invariant-loop-v l = record {
  total : l.total ≡ sum_to l.v (λ v. (sure l.p.given (seen l.view.region.now l.view.lens) l.t).held v l.weight (nodes_of l.p.given l.area));
  small : l.total ≤ l.v * max_held;
}
