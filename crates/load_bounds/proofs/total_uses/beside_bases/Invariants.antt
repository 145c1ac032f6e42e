use Rattle.load_bounds.proofs.Prelude.{slice_index_or, ◌≡◌, ◌-◌, ◌*◌, ◌≤◌, take, sum_by, Amount, base, max_amount, may_wait, most_anywhere, no_standing, sets}
use Rattle.load_bounds.proofs.total_uses.beside_bases.Given as goal

abbrev pub invariant-loop-i : goal.invariant-loop-i
invariant-loop-i l = record {
  more : l.more ≡ sum_by (λ v. most_anywhere l.p.given v l.r l.x (may_wait l.p.given (sets l.g) l.x v) (slice_index_or l.ks v no_standing) - base l.p.given v (Amount l.r)) (take l.i l.machines);
  less : l.less ≡ sum_by (λ v. base l.p.given v (Amount l.r) - most_anywhere l.p.given v l.r l.x (may_wait l.p.given (sets l.g) l.x v) (slice_index_or l.ks v no_standing)) (take l.i l.machines);
  few_more : l.more ≤ l.i * max_amount;
  few_less : l.less ≤ l.i * max_amount;
}
