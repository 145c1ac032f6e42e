use Rattle.base.proofs.Public.{◌≡◌, ◌==◌, slice_get}
use Rattle.partition.specs.Reach.{at}
use Rattle.partition.proofs.DealLemmas.{given_to}
use Rattle.partition.proofs.building.some_nodes.Given as goal

abbrev pub invariant-loop-n : goal.invariant-loop-n
invariant-loop-n l = l.kept.items ≡ given_to (slice_get l.nodes) (λ n. at l.groups n == l.i) l.n
