use Rattle.relax.proofs.Prelude.{◌≡◌, ◌≤◌, cond, nodes_of, seen, sum_to, sure}
use Rattle.relax.proofs.totals.powered_nodes.Given as goal

abbrev pub invariant-loop-n : goal.invariant-loop-n
invariant-loop-n l = record {
  total : l.total ≡ sum_to l.n (λ n. cond (nodes_of l.p.given l.area n) (cond ((sure l.p.given (seen l.view.region.now l.view.lens) l.t).powered n) 1 0) 0);
  small : l.total ≤ l.n;
}
