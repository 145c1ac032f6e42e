use Rattle.relax.proofs.Prelude.{◌≡◌, ◌*◌, ◌^◌, ◌≤◌, end_of, least, node, seen, sum_to}
use Rattle.relax.proofs.totals.node_ends.Given as goal

abbrev pub invariant-loop-n : goal.invariant-loop-n
invariant-loop-n l = record {
  total : l.total ≡ sum_to l.n (λ n. least (end_of l.p.given (node n)) (seen l.view.region.now l.view.lens (node n)));
  small : l.total ≤ l.n * 2 ^ 64;
}
