use Rattle.base.proofs.Public.{◌≡◌, map, take}
use Rattle.partition.specs.Cutting.{nodes_by}
use Rattle.partition.proofs.cutting.cut_sets.Given as goal

abbrev pub invariant-loop-set : goal.invariant-loop-set
invariant-loop-set l = l.cut.items ≡ map (nodes_by l.d.nodes.items l.numbers.nodes.items l.i) (take l.set-index l.groups)
