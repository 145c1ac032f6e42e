use Rattle.std.proofs.Common.{◌≡◌, ◌*◌, ◌≤◌}
use Rattle.slices.specs.Prelude.{Amount, choices_of, max_held, one, snapshot_at, sum_to}
use Rattle.slices.proofs.snapshot.used.Given as goal

abbrev pub invariant-loop-v : goal.invariant-loop-v
invariant-loop-v l =
    (l.total ≡ sum_to l.v (λ v. (snapshot_at l.p.given (choices_of l.plan) l.t).held v (Amount l.r) (one l.n.0)))
    × (l.total ≤ l.v * max_held)
