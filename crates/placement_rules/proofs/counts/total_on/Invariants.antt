use Rattle.placement_rules.proofs.Prelude.{◌≡◌, ◌*◌, ◌≤◌, choices_of, has_node, snapshot_at, sum_to}
use Rattle.placement_rules.proofs.counts.total_on.Given as goal

abbrev pub invariant-loop-v : goal.invariant-loop-v
invariant-loop-v l =
    (l.total ≡ sum_to l.v (λ v. (snapshot_at l.p.given (choices_of l.plan) l.t).held v l.weight (has_node l.nodes))) × (l.total ≤ l.v * 2_000_000_000)
