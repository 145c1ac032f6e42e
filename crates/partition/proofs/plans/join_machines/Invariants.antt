use Rattle.base.proofs.Public.{◌≡◌, ◌++◌, map, range_with_len}
use Rattle.slices.specs.Elements.{vm}
use Rattle.partition.specs.Plans.{joined_choice}
use Rattle.partition.specs.Reach.{at}
use Rattle.partition.proofs.plans.join_machines.Given as goal

abbrev pub invariant-loop-v : goal.invariant-loop-v
invariant-loop-v l = l.found.items ≡ l.fn.found.items ++ map (λ v. joined_choice l.lists l.plans (at l.groups v) (vm (at l.numbers v))) (range_with_len 0 l.v)
