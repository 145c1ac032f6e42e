use Rattle.std.proofs.Common.{◌∙◌, ap, sym, length}
use Rattle.plan_json.specs.Plans.{first_to_act}
use Rattle.plan_json.proofs.ChoiceLemmas.{length-choices_for, plan_is}
use Rattle.plan_json.proofs.reading.plan_with.Goals as goal

pub first_to_act-requires : goal.first_to_act-requires
first_to_act-requires c = ap length (c.deref.ensures.value ∙ c.in_ok-choices.ensures) ∙ length-choices_for c.args.p.now.given c.args.actions.now

pub idle_or-requires : goal.idle_or-requires
idle_or-requires c =
    let none = ap (first_to_act c.args.p.now.given) (sym (c.deref.ensures.value ∙ c.in_ok-choices.ensures)) ∙ sym c.in-None.ensures in
    rw c.in_ok-choices.ensures (plan_is c.args.p.now.given c.args.actions.now c.requires none)

pub returns-in-None-clause-plan : goal.returns-in-None-clause-plan
returns-in-None-clause-plan c =
    let none = ap (first_to_act c.args.p.now.given) (sym (c.deref.ensures.value ∙ c.in_ok-choices.ensures)) ∙ sym c.in-None.ensures in
    rw (c.idle_or.ensures.plan, c.in_ok-choices.ensures) (plan_is c.args.p.now.given c.args.actions.now c.requires none)
