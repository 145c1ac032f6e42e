use Rattle.std.proofs.Common.{◌≡◌, [], true}
use Rattle.instance_json.specs.Prelude.{all_of, are_machines, machine_item, path_of}
use Rattle.serde_json.specs.View.{view}
use Rattle.json_walk.proofs.Public.{StandsAt}
use Rattle.instance_json.proofs.lists.machines_from.Given as goal

abbrev pub invariant-loop-i : goal.invariant-loop-i
invariant-loop-i l = StandsAt (machine_item l.cluster.given (all_of l.initial.listing.before) (path_of l.path)) view l.values l.i l.listing.current [] × (l.listing.before ≡ l.initial.listing.before) × (are_machines l.cluster.given l.listing.current ≡ true)
