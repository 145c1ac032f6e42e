-- What is sure is a part of what each plan has, and grows in narrower sets.
use Rattle.base.proofs.Public.{◌≤◌, ℕ, ap, refl, arith, Option, Some, None, IsSomeAnd, sum_to-le, sum_to-same}
use Rattle.reasons.specs.Prelude.{action_at, Choices, CostsAtLeast, end_of, held_at, Instance, IsIn, IsPartOf, least, least_cost, LeastCostGrows, machine_count, node, node_count, OnlyCosts, powered_at, present_at, Sets, snapshot_of, sure, SureGrows, usable_at, vm}
use Rattle.domains.proofs.Public.{least_grows, least_of_each, may_each, may_stays, surely_each, surely_stays}

-- each plan of the sets has at least what is sure
pub sure-part : (p : Instance) (s : Sets) (plan : Choices) (t : ℕ) → IsIn s plan → IsPartOf (sure p s t) (snapshot_of p plan t)
unfolding sure
sure-part p s plan t i = record {
  held = λ v w set. least_of_each (held_at p v w set t) (s (vm v)) (plan (vm v)) (i (vm v));
  present = λ v set. surely_each (present_at p v set t) (s (vm v)) (plan (vm v)) (i (vm v));
  usable = λ n. may_each (usable_at p n t) (s (node n)) (plan (node n)) (i (node n));
  powered = λ n. surely_each (powered_at p n t) (s (node n)) (plan (node n)) (i (node n));
  action = λ v far. surely_each (action_at p v far t) (s (vm v)) (plan (vm v)) (i (vm v));
}

pub sure_grows : SureGrows
unfolding sure
sure_grows p s narrow fewer some t = record {
  held = λ v i w set. least_grows (held_at p v w set t) (narrow (vm v)) (s (vm v)) (fewer (vm v)) (some (vm v) i);
  present = λ v set. surely_stays (present_at p v set t) (narrow (vm v)) (s (vm v)) (fewer (vm v));
  usable = λ n. may_stays (usable_at p n t) (narrow (node n)) (s (node n)) (fewer (node n));
  powered = λ n. surely_stays (powered_at p n t) (narrow (node n)) (s (node n)) (fewer (node n));
  action = λ v far. surely_stays (action_at p v far t) (narrow (vm v)) (s (vm v)) (fewer (vm v));
}

-- and costs at least the sum of the least ends
pub costs_at_least : CostsAtLeast
unfolding least_cost
costs_at_least p s plan i =
    let machines = sum_to-le (machine_count p) (λ v. least (end_of p (vm v)) (s (vm v))) (λ v. end_of p (vm v) (plan (vm v)))
    (λ v l. least_of_each (end_of p (vm v)) (s (vm v)) (plan (vm v)) (i (vm v))) in
    let nodes = sum_to-le (node_count p) (λ n. least (end_of p (node n)) (s (node n))) (λ n. end_of p (node n) (plan (node n)))
    (λ n l. least_of_each (end_of p (node n)) (s (node n)) (plan (node n)) (i (node n))) in
    omega (arith, machines, nodes)

pub only_costs : OnlyCosts
unfolding least_cost
only_costs p s plan only =
    rw (
      sum_to-same (machine_count p) (λ v. least (end_of p (vm v)) (s (vm v))) (λ v. end_of p (vm v) (plan (vm v))) (λ v l. ap (least (end_of p (vm v))) (only (vm v))),
      sum_to-same (node_count p) (λ n. least (end_of p (node n)) (s (node n))) (λ n. end_of p (node n) (plan (node n))) (λ n l. ap (least (end_of p (node n))) (only (node n))),
    ) refl

-- that sum grows in narrower sets
pub least_cost_grows : LeastCostGrows
unfolding least_cost
least_cost_grows p s narrow fewer some =
    let machines = sum_to-le (machine_count p) (λ v. least (end_of p (vm v)) (s (vm v))) (λ v. least (end_of p (vm v)) (narrow (vm v)))
    (λ v l. least_grows (end_of p (vm v)) (narrow (vm v)) (s (vm v)) (fewer (vm v)) (some (vm v) l)) in
    let nodes = sum_to-le (node_count p) (λ n. least (end_of p (node n)) (s (node n))) (λ n. least (end_of p (node n)) (narrow (node n)))
    (λ n l. least_grows (end_of p (node n)) (narrow (node n)) (s (node n)) (fewer (node n)) (some (node n) l)) in
    omega (arith, machines, nodes)

-- a bound that is at most one number is at most a greater one
pub bound-le : (bound : Option ℕ) (a b : ℕ) → a ≤ b → IsSomeAnd bound (λ cost. cost ≤ a) → IsSomeAnd bound (λ cost. cost ≤ b)
bound-le None a b l h = h
bound-le (Some cost) a b l h = omega arith
