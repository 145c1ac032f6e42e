use Rattle.std.proofs.Common.{◌≡◌, map, take}
use Rattle.instance_make.specs.Prelude.{constraint_data, items}
use Rattle.instance_make.proofs.printing.constraints_list.Given as goal

abbrev pub invariant-loop-constraint : goal.invariant-loop-constraint
invariant-loop-constraint l = items l.list ≡ map (constraint_data l.cluster.given) (take l.constraint-index l.constraints)
