use Rattle.std.proofs.Common.{◌≡◌, [], length, true}
use Rattle.instance_json.specs.Prelude.{all_of, are_machines, part_step, path_of}
use Rattle.serde_json.specs.View.{view}
use Rattle.json_walk.proofs.Public.{StandsAt}
use Rattle.instance_json.proofs.lists.parts_from.Given as goal

abbrev pub invariant-loop-i : goal.invariant-loop-i
invariant-loop-i l = StandsAt (part_step l.cluster.given (path_of l.path)) view l.values l.i l.listing.before [] × (l.listing.current ≡ []) × (are_machines l.cluster.given (all_of l.listing.before) ≡ true) × (length l.listing.before ≡ l.i)
