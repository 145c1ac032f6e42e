use Rattle.relax.proofs.PlanLemmas.{is_only, is_plan}
use Rattle.relax.proofs.plan.plan_of.Goals as goal

pub idle_or-requires : goal.idle_or-requires
idle_or-requires c =
    is_plan c.args.p.now.given c.args.g.now c.requires.region c.requires.legal c.in_ok-choices.choices.items c.in_ok-choices.ensures.count c.in_ok-choices.ensures.each

pub returns-clause-plan : goal.returns-clause-plan
returns-clause-plan c =
    rw c.idle_or.ensures.plan (is_plan c.args.p.now.given c.args.g.now c.requires.region c.requires.legal c.in_ok-choices.choices.items c.in_ok-choices.ensures.count c.in_ok-choices.ensures.each)

pub returns-clause-only : goal.returns-clause-only
returns-clause-only c =
    rw c.idle_or.ensures.plan (is_only c.args.p.now.given c.args.g.now c.requires.region c.requires.legal c.in_ok-choices.choices.items c.in_ok-choices.ensures.count c.in_ok-choices.ensures.each)
