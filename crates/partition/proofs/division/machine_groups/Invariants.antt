use Rattle.base.proofs.Public.{◌≡◌, map, range_with_len}
use Rattle.partition.specs.Division.{group_by}
use Rattle.partition.proofs.division.machine_groups.Given as goal

abbrev pub invariant-loop-v : goal.invariant-loop-v
invariant-loop-v l = l.groups.items ≡ map (group_by l.p.given l.nodes) (range_with_len 0 l.v)
