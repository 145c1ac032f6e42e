use Rattle.base.proofs.Public.{◌≡◌, ◌-◌, find, is_none, range_with_len}
use Rattle.slices.specs.Elements.{node_count}
use Rattle.parts.specs.Groups.{node_group}
use Rattle.parts.specs.Splits.{first_uncovered}
use Rattle.partition.proofs.covering.first_uncovered.Given as goal

abbrev pub invariant-loop-n : goal.invariant-loop-n
invariant-loop-n l = first_uncovered l.p.given l.groups ≡ find (λ m. is_none (node_group l.groups m)) (range_with_len l.n (node_count l.p.given - l.n))
