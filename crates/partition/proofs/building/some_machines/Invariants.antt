use Rattle.base.proofs.Public.{◌≡◌, ◌==◌, option_map, slice_get}
use Rattle.partition.specs.Cutting.{machine_by}
use Rattle.partition.specs.Reach.{at}
use Rattle.partition.proofs.DealLemmas.{given_to}
use Rattle.partition.proofs.building.some_machines.Given as goal

abbrev pub invariant-loop-v : goal.invariant-loop-v
invariant-loop-v l = l.kept.items ≡ given_to (λ v. option_map (machine_by l.numbers) (slice_get l.machines v)) (λ v. at l.groups v == l.i) l.v
