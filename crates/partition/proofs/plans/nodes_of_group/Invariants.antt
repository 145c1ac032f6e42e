use Rattle.base.proofs.Public.{◌≡◌, filter, range_with_len}
use Rattle.catalogue.specs.Prelude.{has_node}
use Rattle.partition.proofs.plans.nodes_of_group.Given as goal

abbrev pub invariant-loop-n : goal.invariant-loop-n
invariant-loop-n l = l.nodes.items ≡ filter (λ m. has_node l.set m) (range_with_len 0 l.n)
