use Rattle.std.proofs.Common.{◌≡◌, [], length}
use Rattle.json_walk.specs.Prelude.{path_of}
use Rattle.json_walk.proofs.Public.{StandsAt}
use Rattle.partition.specs.GroupsText.{AreApart, group_step}
use Rattle.serde_json.specs.View.{view}
use Rattle.partition.proofs.reading.groups_in.Given as goal

abbrev pub invariant-loop-i : goal.invariant-loop-i
invariant-loop-i l = StandsAt (group_step l.cluster.given (path_of l.path)) view l.values l.i l.groups.items [] × AreApart (length l.cluster.given.nodes) l.groups.items × (length l.groups.items ≡ l.i)
