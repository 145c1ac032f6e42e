use Rattle.load_bounds.proofs.Prelude.{◌*◌, ◌≤◌, take, sum_by, Amount, max_held, one, seen, sure}
use Rattle.load_bounds.proofs.over.near_use.Given as goal

abbrev pub invariant-loop-i : goal.invariant-loop-i
invariant-loop-i l = record {
  total : l.total ≤ sum_by (λ v. (sure l.p.given (seen l.view.region.now l.view.lens) l.t).held v (Amount l.r) (one l.n.0)) (take l.i l.kept.near.now);
  small : l.total ≤ l.i * max_held;
}
