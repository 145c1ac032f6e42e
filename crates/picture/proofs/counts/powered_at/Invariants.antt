use Rattle.base.proofs.Public.{◌≡◌, ◌≤◌, if◌then◌else◌}
use Rattle.base.specs.Sums.{sum_to}
use Rattle.picture.specs.Prelude.{choices_of, snapshot_at}
use Rattle.picture.proofs.counts.powered_at.Given as goal

abbrev pub invariant-loop-n : goal.invariant-loop-n
invariant-loop-n l = record {
  few : l.count ≤ l.n;
  sum : l.count ≡ sum_to l.n (λ n. if (snapshot_at l.p.given (choices_of l.plan) l.t).powered n then 1 else 0);
}
