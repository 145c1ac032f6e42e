use Rattle.std.proofs.Common.{◌≡◌, map, take}
use Rattle.instance_make.specs.Prelude.{items, machines_list}
use Rattle.instance_make.proofs.lists.parts_list.Given as goal

abbrev pub invariant-loop-part : goal.invariant-loop-part
invariant-loop-part l = items l.list ≡ map (machines_list l.cluster.given) (take l.part-index l.parts)
