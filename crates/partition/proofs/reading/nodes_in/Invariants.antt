use Rattle.std.proofs.Common.{length}
use Rattle.catalogue.specs.Prelude.{no_nodes}
use Rattle.json_walk.specs.Prelude.{path_of}
use Rattle.json_walk.proofs.Public.{StandsAt}
use Rattle.partition.specs.GroupsText.{IsNew, node_step}
use Rattle.serde_json.specs.View.{view}
use Rattle.partition.proofs.reading.nodes_in.Given as goal

abbrev pub invariant-loop-i : goal.invariant-loop-i
invariant-loop-i l = StandsAt (node_step l.cluster.given l.groups (path_of l.path)) view l.values l.i l.group no_nodes × IsNew (length l.cluster.given.nodes) l.groups l.group
