use Rattle.std.proofs.Common.{◌≡◌, map, take}
use Rattle.instance_make.specs.Prelude.{items, node_data}
use Rattle.instance_make.proofs.printing.nodes_list.Given as goal

abbrev pub invariant-loop-node : goal.invariant-loop-node
invariant-loop-node l = items l.list ≡ map (node_data l.cluster.given) (take l.node-index l.nodes)
