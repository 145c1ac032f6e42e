use Rattle.std.proofs.Common.{◌≡◌}
use Rattle.instance_make.specs.Building.{nodes_to, machines_to}
use Rattle.instance_make.proofs.generated_cluster.cluster.Given as goal

abbrev pub invariant-loop-n : goal.invariant-loop-n
invariant-loop-n l = l.cluster.given ≡ nodes_to l.n

abbrev pub invariant-loop-i : goal.invariant-loop-i
invariant-loop-i l = l.cluster.given ≡ machines_to l.seed l.i
