use Rattle.std.proofs.Common.{map}
use Rattle.base.proofs.Public.{◌≡◌, filter, range_with_len}
use Rattle.instance_make.specs.Prelude.{has_node, items, node_name_at}
use Rattle.instance_make.proofs.lists.nodes_list.Given as goal

abbrev pub invariant-loop-n : goal.invariant-loop-n
invariant-loop-n l = items l.list ≡ map (node_name_at l.cluster.given) (filter (has_node l.nodes) (range_with_len 0 l.n))
