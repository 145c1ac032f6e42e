use Rattle.std.proofs.Common.{◌≡◌, true}
use Rattle.instance_json.specs.Prelude.{are_nodes, no_nodes, node_item, path_of}
use Rattle.serde_json.specs.View.{view}
use Rattle.json_walk.proofs.Public.{StandsAt}
use Rattle.instance_json.proofs.lists.nodes_from.Given as goal

abbrev pub invariant-loop-i : goal.invariant-loop-i
invariant-loop-i l = StandsAt (node_item l.cluster.given (path_of l.path)) view l.values l.i l.set no_nodes × (are_nodes l.cluster.given l.set ≡ true)
