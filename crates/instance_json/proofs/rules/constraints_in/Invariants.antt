use Rattle.std.proofs.Common.{◌≡◌, length}
use Rattle.instance_json.specs.Prelude.{constraint_step, path_of}
use Rattle.serde_json.specs.View.{view}
use Rattle.json_walk.proofs.Public.{StandsAt}
use Rattle.instance_json.proofs.rules.constraints_in.Given as goal

abbrev pub invariant-loop-i : goal.invariant-loop-i
invariant-loop-i l = StandsAt (constraint_step (path_of l.path)) view l.values l.i l.problem.given l.initial.problem.given × (length l.problem.given.constraints ≡ l.i)
