use Rattle.base.proofs.Public.{◌∙◌, subst, sym}
use Rattle.slices.specs.Plans.{IsPlanOf, PlanChoices}
use Rattle.partition.specs.Plans.{IsUnion, joined_machines, joined_nodes, listed_in}
use Rattle.partition.proofs.PlanLemmas.{parted_is}
use Rattle.partition.proofs.UnionLemmas.{joined_is_union}
use Rattle.partition.proofs.plans.union.Goals as goal

pub idle_or-requires : goal.idle_or-requires
idle_or-requires c =
    let p = c.args.p.now.given in
    let groups = c.args.groups.now in
    let nodes = c.args.d.now.nodes.items in
    let machines = c.args.d.now.machines.items in
    let node_numbers = c.args.numbers.now.nodes.items in
    let machine_numbers = c.args.numbers.now.machines.items in
    let is = joined_is_union p groups c.requires.split nodes machines c.requires.divides node_numbers machine_numbers c.requires.numbers c.args.plans.now c.requires.plans in
    let same = parted_is p (joined_machines machines machine_numbers (listed_in p groups) c.args.plans.now) (joined_nodes nodes node_numbers (listed_in p groups) c.args.plans.now) c.in_ok-choices.choices.items c.in_ok-choices.ensures is.plan_is.machines in
    subst (λ (q : PlanChoices). IsPlanOf c.args.p.now.given q) (sym same) is.plan_is

pub returns : goal.returns
returns c =
    let p = c.args.p.now.given in
    let groups = c.args.groups.now in
    let nodes = c.args.d.now.nodes.items in
    let machines = c.args.d.now.machines.items in
    let node_numbers = c.args.numbers.now.nodes.items in
    let machine_numbers = c.args.numbers.now.machines.items in
    let is = joined_is_union p groups c.requires.split nodes machines c.requires.divides node_numbers machine_numbers c.requires.numbers c.args.plans.now c.requires.plans in
    let same = parted_is p (joined_machines machines machine_numbers (listed_in p groups) c.args.plans.now) (joined_nodes nodes node_numbers (listed_in p groups) c.args.plans.now) c.in_ok-choices.choices.items c.in_ok-choices.ensures is.plan_is.machines in
    subst (λ (q : PlanChoices). IsUnion c.args.p.now.given c.args.groups.now c.args.plans.now q) (sym (c.idle_or.ensures.plan ∙ same)) is
