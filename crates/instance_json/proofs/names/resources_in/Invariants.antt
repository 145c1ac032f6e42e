use Rattle.std.proofs.Common.{◌≡◌, [], length, true}
use Rattle.instance_json.specs.Prelude.{are_distinct, path_of, resource_step}
use Rattle.serde_json.specs.View.{view}
use Rattle.json_walk.proofs.Public.{StandsAt}
use Rattle.instance_json.proofs.names.resources_in.Given as goal

abbrev pub invariant-loop-i : goal.invariant-loop-i
invariant-loop-i l = StandsAt (resource_step (path_of l.path)) view l.values l.i l.resources.items [] × (are_distinct l.resources.items ≡ true) × (length l.resources.items ≡ l.i)
