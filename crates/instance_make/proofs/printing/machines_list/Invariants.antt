use Rattle.std.proofs.Common.{◌≡◌, map, take}
use Rattle.instance_make.specs.Prelude.{items, machine_data}
use Rattle.instance_make.proofs.printing.machines_list.Given as goal

abbrev pub invariant-loop-machine : goal.invariant-loop-machine
invariant-loop-machine l = items l.list ≡ map (machine_data l.cluster.given) (take l.machine-index l.machines)
