use Rattle.std.proofs.Common.{◌≡◌, map, take}
use Rattle.instance_make.specs.Prelude.{items, machine_name}
use Rattle.instance_make.proofs.lists.machines_list.Given as goal

abbrev pub invariant-loop-v : goal.invariant-loop-v
invariant-loop-v l = items l.list ≡ map (machine_name l.cluster.given) (take l.v-index l.machines)
