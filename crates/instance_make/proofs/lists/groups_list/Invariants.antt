use Rattle.std.proofs.Common.{◌≡◌, map, take}
use Rattle.instance_make.specs.Prelude.{items, nodes_list}
use Rattle.instance_make.proofs.lists.groups_list.Given as goal

abbrev pub invariant-loop-group : goal.invariant-loop-group
invariant-loop-group l = items l.list ≡ map (nodes_list l.cluster.given) (take l.group-index l.groups)
