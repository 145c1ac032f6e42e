use Rattle.load_bounds.proofs.Prelude.{slice_index_or, ◌≡◌, ◌*◌, ◌≤◌, take, sum_by, Amount, max_amount, most_kept, no_standing}
use Rattle.load_bounds.proofs.uses.most_used.Given as goal

abbrev pub invariant-loop-i : goal.invariant-loop-i
invariant-loop-i l = record {
  total : l.total ≡ sum_by (λ v. most_kept l.p.given v (Amount l.r) l.n.0 l.x (slice_index_or l.kept.standings.now v no_standing)) (take l.i l.kept.near.now);
  small : l.total ≤ l.i * (2 * max_amount);
}
