use Rattle.base.proofs.Public.{◌≡◌, ◌-◌, find, length, range_with_len}
use Rattle.parts.specs.Groups.{in_group, node_group}
use Rattle.partition.proofs.covering.group_of.Given as goal

abbrev pub invariant-loop-i : goal.invariant-loop-i
invariant-loop-i l = node_group l.groups l.n.0 ≡ find (λ j. in_group l.groups j l.n.0) (range_with_len l.i (length l.groups - l.i))
