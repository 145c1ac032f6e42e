use Rattle.base.proofs.Public.{◌≡◌, ◌++◌, map, range_with_len}
use Rattle.slices.specs.Elements.{node}
use Rattle.partition.specs.Plans.{joined_choice}
use Rattle.partition.specs.Reach.{at}
use Rattle.partition.proofs.plans.join_nodes.Given as goal

abbrev pub invariant-loop-n : goal.invariant-loop-n
invariant-loop-n l = l.found.items ≡ l.fn.found.items ++ map (λ n. joined_choice l.lists l.plans (at l.groups n) (node (at l.numbers n))) (range_with_len 0 l.n)
