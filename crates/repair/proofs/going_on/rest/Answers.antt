use Rattle.std.proofs.Common.{sym, subst}
use Rattle.repair.specs.Prelude.{choices_of, IsGoingOn, phases_of}
use Rattle.repair.proofs.GoingLemmas.{goes_on, known_of, parted_is_plan}
use Rattle.repair.proofs.going_on.rest.Goals as goal

pub idle_or-after-requires : goal.idle_or-after-requires
idle_or-after-requires c =
    let p = c.args.p.now in
    let known = known_of c.args.m.now p c.args.plan.now c.requires.problem c.requires.plan c.known.ensures in
    parted_is_plan p.given p.sound c.args.plan.now known.whole known.valid (phases_of c.args.m.now) known.execution c.in_ok-problem.problem.given c.in_ok-problem.ensures c.in_ok-choices.choices.items c.in_ok-choices.ensures.count c.in_ok-choices.ensures.each

pub returns : goal.returns
returns c =
    let p = c.args.p.now in
    let phases = phases_of c.args.m.now in
    let q = c.in_ok-problem.problem.given in
    let known = known_of c.args.m.now p c.args.plan.now c.requires.problem c.requires.plan c.known.ensures in
    let going = goes_on p.given p.sound c.args.plan.now known.whole known.valid phases known.execution q c.in_ok-problem.ensures c.in_ok-choices.choices.items c.in_ok-choices.ensures.count c.in_ok-choices.ensures.each in
    (c.in_default.ensures, subst (IsGoingOn p.given (choices_of c.args.plan.now) phases q) (sym c.idle_or-after.ensures.plan) going)
