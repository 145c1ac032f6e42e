use Rattle.base.proofs.Public.{arith}
use Rattle.partition.proofs.Public.{part_count, part_is}
use Rattle.part_check.proofs.JudgeLemmas.{own_plan, planned_gives, planned_sound}
use Rattle.part_check.proofs.sections.judge_planned.Goals as goal

pub part_at-requires : goal.part_at-requires
part_at-requires g c = omega (arith, part_count c.args.p.now.given c.args.groups.now c.args.split.now c.requires.split, c.requires.part)

pub check_text-requires : goal.check_text-requires
check_text-requires g c =
    let p = c.args.p.now.given in
    let groups = c.args.groups.now in
    let same = part_is p groups c.args.split.now c.requires.split c.args.i c.requires.part c.part_at.result.now c.part_at.ensures in
    let is = rw c.in-Some.is at c.in_ok-own.ensures.plan in
    record { plan = own_plan p groups c.args.i c.part_at.result.now.given same c.args.plan.now c.in-Some.own is }

pub returns-in-Some-clause-gives : goal.returns-in-Some-clause-gives
returns-in-Some-clause-gives g c = λ some.
    let p = c.args.p.now.given in
    let groups = c.args.groups.now in
    let same = part_is p groups c.args.split.now c.requires.split c.args.i c.requires.part c.part_at.result.now c.part_at.ensures in
    let is = rw c.in-Some.is at c.in_ok-own.ensures.plan in
    planned_gives p groups c.args.i c.part_at.result.now.given same c.args.plan.now c.in-Some.own is c.args.body.now c.check_text.result (c.check_text.ensures.verdict some)

pub returns-in-Some-clause-sound : goal.returns-in-Some-clause-sound
returns-in-Some-clause-sound g c =
    let p = c.args.p.now.given in
    let groups = c.args.groups.now in
    let same = part_is p groups c.args.split.now c.requires.split c.args.i c.requires.part c.part_at.result.now c.part_at.ensures in
    let is = rw c.in-Some.is at c.in_ok-own.ensures.plan in
    planned_sound p groups c.args.i c.part_at.result.now.given same c.args.plan.now c.in-Some.own is c.check_text.result c.check_text.ensures.sound
