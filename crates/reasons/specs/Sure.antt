-- What is sure in a region at an instant.
use Rattle.std.specs.Prelude.{ℕ, ◌+◌}
use Rattle.slices.specs.Prelude.{action_at, end_of, held_at, Instance, least, machine_count, node, node_count, powered_at, present_at, Snapshot, sum_to, usable_at, vm}
use Rattle.domains.specs.Sets.{Sets, surely, may}

-- what a region surely has: the least of what each machine holds, where it is under each of its choices, the nodes that may be usable,
-- those that are powered under each choice, and how far an action is under each
unfoldable pub sure : Instance → Sets → ℕ → Snapshot
sure p s t = record {
  held = λ v w set. least (held_at p v w set t) (s (vm v));
  present = λ v set. surely (present_at p v set t) (s (vm v));
  usable = λ n. may (usable_at p n t) (s (node n));
  powered = λ n. surely (powered_at p n t) (s (node n));
  action = λ v far. surely (action_at p v far t) (s (vm v));
}

-- the sum of the least ends: no plan of the region costs less
unfoldable pub least_cost : Instance → Sets → ℕ
least_cost p s =
    sum_to (machine_count p) (λ v. least (end_of p (vm v)) (s (vm v))) + sum_to (node_count p) (λ n. least (end_of p (node n)) (s (node n)))
