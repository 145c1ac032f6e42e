use Rattle.std.proofs.Common.{◌≡◌, take}
use Rattle.plan_json.specs.Plans.{choices_for}
use Rattle.plan_json.proofs.choosing.choices.Given as goal

abbrev pub invariant-loop-action : goal.invariant-loop-action
invariant-loop-action l = l.choices.items ≡ choices_for l.p.given (take l.action-index l.actions)
