use Rattle.base.proofs.Public.{◌≡◌, ◌++◌, length, map, range_with_len}
use Rattle.partition.specs.Cutting.{list_at, part_by}
use Rattle.partition.proofs.building.parts_with.Given as goal

abbrev pub invariant-loop-list : goal.invariant-loop-list
invariant-loop-list l = record {
  made : map (λ q. q.given) l.parts.items ≡ map (λ i. part_by l.p.given l.d l.numbers i (list_at l.fn.lists.items i)) (range_with_len 0 (length l.yielded));
  each : length l.parts.items ≡ length l.yielded;
  whole : l.yielded ++ l.list-iterator.rest.items ≡ l.fn.lists.items;
  can_next : (goal.iterator-loop-list).can_next l.list-iterator;
  is_finite : (goal.iterator-loop-list).is_finite l.list-iterator;
}
