use Rattle.base.proofs.Public.{◌≡◌, [], length, true, list_all}
use Rattle.instance_json.specs.Prelude.{are_nodes, group_step, path_of}
use Rattle.serde_json.specs.View.{view}
use Rattle.json_walk.proofs.Public.{StandsAt}
use Rattle.instance_json.proofs.lists.groups_from.Given as goal

abbrev pub invariant-loop-i : goal.invariant-loop-i
invariant-loop-i l = StandsAt (group_step l.cluster.given (path_of l.path)) view l.values l.i l.groups.items [] × (list_all (are_nodes l.cluster.given) l.groups.items ≡ true) × (length l.groups.items ≡ l.i)
