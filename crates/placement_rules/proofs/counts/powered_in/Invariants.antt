use Rattle.placement_rules.proofs.Prelude.{◌≡◌, ◌≤◌, if◌then◌else◌, choices_of, has_node, snapshot_at, sum_to}
use Rattle.placement_rules.proofs.counts.powered_in.Given as goal

abbrev pub invariant-loop-i : goal.invariant-loop-i
invariant-loop-i l =
    (l.count ≡ sum_to l.i (λ n. if has_node l.nodes n then (if (snapshot_at l.p.given (choices_of l.plan) l.t).powered n then 1 else 0) else 0)) × (l.count ≤ l.i)
