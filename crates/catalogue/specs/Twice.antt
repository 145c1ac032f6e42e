-- Machines that stand twice are found by the set of those that stood so far.
use Rattle.std.specs.Prelude.{Bool, List, not, ◌&&◌}
use Rattle.std.specs.List.{list_all}
use Rattle.cluster.specs.declared.ids.VmId.{VmId}
use Rattle.cluster.specs.declared.sets.MachineSet.{MachineSet}
use Rattle.cluster.specs.Sets.{has_machine}
use Rattle.catalogue.specs.Faults.{differ}

-- whether the machines differ from each other and from those of the set
abbrev pub are_new : MachineSet → List VmId → Bool
are_new s vs = differ vs && list_all (λ x. not (has_machine s x.0)) vs
