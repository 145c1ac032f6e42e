use Rattle.std.proofs.Common.{◌≡◌, length}
use Rattle.instance_json.specs.Prelude.{node_step, path_of}
use Rattle.serde_json.specs.View.{view}
use Rattle.json_walk.proofs.Public.{StandsAt}
use Rattle.instance_json.proofs.nodes.nodes_in.Given as goal

abbrev pub invariant-loop-i : goal.invariant-loop-i
invariant-loop-i l = StandsAt (node_step (path_of l.path)) view l.values l.i l.cluster.given l.initial.cluster.given × (length l.cluster.given.nodes ≡ l.i) × (l.cluster.given.machines ≡ l.initial.cluster.given.machines)
