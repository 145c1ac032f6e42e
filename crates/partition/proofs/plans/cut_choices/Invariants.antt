use Rattle.base.proofs.Public.{◌≡◌, ◌==◌, ◌++◌, map, slice_index_or}
use Rattle.cluster.specs.declared.choices.Choice.TheVariants.{Idle}
use Rattle.parts.specs.Cuts.{renumbered_choice}
use Rattle.parts.specs.Numbers.{passing}
use Rattle.partition.specs.Reach.{at}
use Rattle.partition.proofs.plans.cut_choices.Given as goal

abbrev pub invariant-loop-x : goal.invariant-loop-x
invariant-loop-x l = l.found.items ≡ l.fn.found.items ++ map (λ x. renumbered_choice (at l.numbers) (slice_index_or l.choices x Idle)) (passing (λ x. at l.groups x == l.i) l.x)
