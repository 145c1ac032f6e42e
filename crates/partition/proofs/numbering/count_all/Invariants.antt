use Rattle.base.proofs.Public.{◌≡◌, ℕ, ◌==◌, map, range_with_len}
use Rattle.parts.specs.Numbers.{new_number}
use Rattle.partition.specs.Numbering.{number_by}
use Rattle.partition.specs.Reach.{at}
use Rattle.partition.proofs.numbering.count_all.Given as goal

abbrev pub invariant-loop-x : goal.invariant-loop-x
invariant-loop-x l = record {
  made : l.numbers.items ≡ map (number_by l.table) (range_with_len 0 l.x);
  counted : (g : ℕ) → at l.counts g ≡ new_number (λ y. at l.table y == g) l.x;
}
