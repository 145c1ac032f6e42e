use Rattle.std.proofs.Common.{◌≡◌, ◌<◌, ◌≤◌, ◌*◌, ℕ, false}
use Rattle.cluster.specs.Sets.{has_node}
use Rattle.cluster.proofs.sets.NodeSet.first_from.Given as goal

abbrev pub invariant-loop-place : goal.invariant-loop-place
invariant-loop-place l = (m : ℕ) → l.from ≤ m → m < 64 * l.place → has_node l.self m ≡ false
