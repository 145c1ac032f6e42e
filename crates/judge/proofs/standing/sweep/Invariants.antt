use Rattle.std.proofs.Common.{◌≡◌, ◌↔◌, ℕ, ◌*◌, ◌<◌, ◌≤◌, length, IsTrue}
use Rattle.judge.specs.Prelude.{Amount, AreUsable, cell, choices_of, one, snapshot_at, sum_to}
use Rattle.judge.proofs.standing.sweep.Given as goal

abbrev pub invariant-loop-i : goal.invariant-loop-i
invariant-loop-i l = record {
  sums : (n r : ℕ) → r < length l.p.given.resources → cell l.table n r ≡ sum_to l.i (λ v. (snapshot_at l.p.given (choices_of l.plan) l.t).held v (Amount r) (one n));
  small : (n r : ℕ) → cell l.table n r ≤ l.i * 2_000_000_000;
  usable : IsTrue l.all ↔ AreUsable l.p.given (snapshot_at l.p.given (choices_of l.plan) l.t) l.i;
}
