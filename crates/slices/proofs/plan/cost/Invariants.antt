use Rattle.std.proofs.Common.{◌≡◌, ◌+◌, ◌*◌, ◌≤◌}
use Rattle.slices.specs.Prelude.{choices_of, end_of, machine_count, max_horizon, node, sum_to, vm}
use Rattle.slices.proofs.plan.cost.Given as goal

abbrev pub invariant-loop-v : goal.invariant-loop-v
invariant-loop-v l =
    (l.total ≡ sum_to l.v (λ v. end_of l.p.given (vm v) (choices_of l.plan (vm v)))) × (l.total ≤ l.v * max_horizon)

abbrev pub invariant-loop-n : goal.invariant-loop-n
invariant-loop-n l =
    (l.total ≡ sum_to (machine_count l.p.given) (λ v. end_of l.p.given (vm v) (choices_of l.plan (vm v)))
    + sum_to l.n (λ n. end_of l.p.given (node n) (choices_of l.plan (node n))))
    × (l.total ≤ (machine_count l.p.given + l.n) * max_horizon)
