use Rattle.relax.proofs.Prelude.{◌≡◌, ◌*◌, ◌≤◌, cond, capacity_of, max_capacity, nodes_of, seen, sum_to, sure}
use Rattle.relax.proofs.totals.room.Given as goal

abbrev pub invariant-loop-n : goal.invariant-loop-n
invariant-loop-n l = record {
  total : l.total ≡ sum_to l.n (λ n. cond (nodes_of l.p.given l.area n) (cond ((sure l.p.given (seen l.view.region.now l.view.lens) l.t).usable n) (capacity_of l.p.given n l.r) 0) 0);
  small : l.total ≤ l.n * max_capacity;
}
