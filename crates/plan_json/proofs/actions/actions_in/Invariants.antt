use Rattle.std.proofs.Common.{[]}
use Rattle.plan_json.specs.Prelude.{action_step, AreActions, path_of}
use Rattle.serde_json.specs.View.{view}
use Rattle.json_walk.proofs.Public.{StandsAt}
use Rattle.plan_json.proofs.actions.actions_in.Given as goal

abbrev pub invariant-loop-i : goal.invariant-loop-i
invariant-loop-i l = StandsAt (action_step l.p.given (path_of l.path)) view l.values l.i l.actions [] × AreActions l.p.given l.actions
