use Rattle.base.proofs.Public.{◌≤◌, ◌∙◌, ap, length, take, arith, take_all}
use Rattle.plan_json.specs.Plans.{choices_for}
use Rattle.plan_json.proofs.ChoiceLemmas.{choices_for-none, choices_for-next, length-choices_for}
use Rattle.plan_json.proofs.choosing.choices.Goals as goal

pub loop-action-init : goal.loop-action-init
loop-action-init c = c.in_ok-choices.ensures ∙ choices_for-none c.args.p.now.given

pub choose-requires-clause-element : goal.choose-requires-clause-element
choose-requires-clause-element c = c.requires.elements c.loop-action.action-index _ c.loop-action-test.true

pub choose-requires-clause-places : goal.choose-requires-clause-places
choose-requires-clause-places c = ap length c.loop-action.invariant ∙ length-choices_for c.args.p.now.given (take c.loop-action.action-index c.args.actions.now)

pub loop-action-preserved : goal.loop-action-preserved
loop-action-preserved c =
    c.choose.ensures
    ∙ choices_for-next c.args.p.now.given c.args.actions.now c.loop-action.action-index _ c.loop-action.choices.items c.requires c.loop-action-test.true c.loop-action.invariant

pub returns : goal.returns
returns c =
    let all : length c.args.actions.now ≤ c.loop-action.action-index = omega arith in
    c.loop-action.invariant ∙ ap (choices_for c.args.p.now.given) (take_all c.loop-action.action-index c.args.actions.now all)
