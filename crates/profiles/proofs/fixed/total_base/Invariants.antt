use Rattle.profiles.proofs.Prelude.{◌≡◌, ◌*◌, ◌≤◌, Amount, base, max_amount, sum_to}
use Rattle.profiles.proofs.fixed.total_base.Given as goal

abbrev pub invariant-loop-i : goal.invariant-loop-i
invariant-loop-i l = record {
  total : l.total ≡ sum_to l.i (λ v. base l.p.given v (Amount l.r));
  small : l.total ≤ l.i * max_amount;
}
