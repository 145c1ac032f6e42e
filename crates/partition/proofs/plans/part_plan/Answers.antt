use Rattle.base.proofs.Public.{◌∙◌, ap, subst, sym}
use Rattle.catalogue.specs.Prelude.{Instance}
use Rattle.slices.specs.Elements.{machine_count}
use Rattle.slices.specs.Plans.{choices_of, IsPlanOf, PlanChoices}
use Rattle.partition.specs.Plans.{cut_choices, cut_plan, IsPartPlan}
use Rattle.partition.proofs.PlanLemmas.{cut_is_part, part_leaves, part_stays, parted_is}
use Rattle.partition.proofs.plans.part_plan.Goals as goal

pub returns-then-not-stays-clause-leaves : goal.returns-then-not-stays-clause-leaves
returns-then-not-stays-clause-leaves c =
    part_leaves c.args.p.now.given c.args.groups.now c.requires.split c.args.d.now.nodes.items c.args.d.now.machines.items c.requires.divides c.args.numbers.now.nodes.items c.args.numbers.now.machines.items c.requires.numbers c.args.i c.args.plan.now
    c.requires.plan (sym c.stays.ensures ∙ c.if-not-stays.true)

pub idle_or-requires : goal.idle_or-requires
idle_or-requires c =
    let nodes = c.args.d.now.nodes.items in
    let machines = c.args.d.now.machines.items in
    let numbers = c.args.numbers.now.nodes.items in
    let i = c.args.i in
    let plan = c.args.plan.now in
    let stays = part_stays c.args.p.now.given c.args.groups.now c.requires.split nodes machines c.requires.divides numbers c.args.numbers.now.machines.items c.requires.numbers i plan c.requires.plan (sym c.stays.ensures ∙ c.if-not-stays.false) in
    let part = cut_is_part c.args.p.now.given c.args.groups.now c.requires.split nodes machines c.requires.divides numbers c.args.numbers.now.machines.items c.requires.numbers i plan c.requires.plan stays in
    let long = part.plan_is.machines ∙ ap machine_count (sym c.requires.part) in
    let same = parted_is c.args.part.now.given (cut_choices machines i numbers plan.machines) (cut_choices nodes i numbers plan.nodes) c.in_ok-choices.choices.items c.in_ok-choices.ensures long in
    subst (λ (q : PlanChoices). IsPlanOf c.args.part.now.given q) (sym same) (subst (λ (q : Instance). IsPlanOf q (cut_plan nodes machines numbers i plan)) (sym c.requires.part) part.plan_is)

pub returns-clause-plan : goal.returns-clause-plan
returns-clause-plan c =
    let nodes = c.args.d.now.nodes.items in
    let machines = c.args.d.now.machines.items in
    let numbers = c.args.numbers.now.nodes.items in
    let i = c.args.i in
    let plan = c.args.plan.now in
    let stays = part_stays c.args.p.now.given c.args.groups.now c.requires.split nodes machines c.requires.divides numbers c.args.numbers.now.machines.items c.requires.numbers i plan c.requires.plan (sym c.stays.ensures ∙ c.if-not-stays.false) in
    let part = cut_is_part c.args.p.now.given c.args.groups.now c.requires.split nodes machines c.requires.divides numbers c.args.numbers.now.machines.items c.requires.numbers i plan c.requires.plan stays in
    let long = part.plan_is.machines ∙ ap machine_count (sym c.requires.part) in
    let same = parted_is c.args.part.now.given (cut_choices machines i numbers plan.machines) (cut_choices nodes i numbers plan.nodes) c.in_ok-choices.choices.items c.in_ok-choices.ensures long in
    subst (λ (q : PlanChoices). IsPartPlan c.args.p.now.given c.args.groups.now i (choices_of plan) q) (sym (c.idle_or.ensures.plan ∙ same)) part
