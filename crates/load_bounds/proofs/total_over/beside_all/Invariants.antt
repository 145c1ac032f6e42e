use Rattle.load_bounds.proofs.Prelude.{◌≡◌, ◌-◌, ◌*◌, ◌≤◌, take, sum_by, all_nodes, Amount, base, max_amount, max_held, seen, sure}
use Rattle.load_bounds.proofs.total_over.beside_all.Given as goal

abbrev pub invariant-loop-i : goal.invariant-loop-i
invariant-loop-i l = record {
  more : l.more ≡ sum_by (λ v. (sure l.p.given (seen l.view.region.now l.view.lens) l.t).held v (Amount l.r) (all_nodes l.p.given) - base l.p.given v (Amount l.r)) (take l.i l.machines);
  less : l.less ≡ sum_by (λ v. base l.p.given v (Amount l.r) - (sure l.p.given (seen l.view.region.now l.view.lens) l.t).held v (Amount l.r) (all_nodes l.p.given)) (take l.i l.machines);
  few_more : l.more ≤ l.i * max_held;
  few_less : l.less ≤ l.i * max_amount;
}
