use Rattle.base.proofs.Public.{◌≡◌, map, range_with_len}
use Rattle.slices.specs.Elements.{node_count}
use Rattle.parts.specs.Groups.{in_group}
use Rattle.parts.specs.Numbers.{passing}
use Rattle.partition.proofs.plans.nodes_of_groups.Given as goal

abbrev pub invariant-loop-i : goal.invariant-loop-i
invariant-loop-i l = l.lists.items ≡ map (λ i. passing (in_group l.groups i) (node_count l.p.given)) (range_with_len 0 l.i)
