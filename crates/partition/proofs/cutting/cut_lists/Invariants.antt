use Rattle.base.proofs.Public.{◌≡◌, map, take}
use Rattle.partition.specs.Cutting.{machines_by}
use Rattle.partition.proofs.cutting.cut_lists.Given as goal

abbrev pub invariant-loop-list : goal.invariant-loop-list
invariant-loop-list l = l.cut.items ≡ map (machines_by l.d.machines.items l.numbers.machines.items l.i) (take l.list-index l.parts)
