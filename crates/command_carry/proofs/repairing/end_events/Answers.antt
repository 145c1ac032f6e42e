use Rattle.command_carry.specs.Prelude.{broken_line, choices_of, IsFirstBroken, outside, RepairsPlan, told}
use Rattle.command_frame.specs.declared.status.Status.{Status}
use Rattle.command_frame.proofs.Public.{ends_with_line}
use Rattle.command_carry.proofs.RepairAnswers.{repairs_broken, repairs_valid, took_broken, took_no_memory, took_valid}
use Rattle.command_carry.proofs.repairing.end_events.Goals as goal

-- ---- a valid plan

pub returns-in-Ok-clause-ends : goal.returns-in-Ok-clause-ends
returns-in-Ok-clause-ends g c = λ desk_told printed.
    repairs_valid _ c.args.new_instance.now c.args.new_plan.now c.args.p.now.given (choices_of c.args.plan.now) _ _ c.follow_events.result c.in-Ok.ensures.3 (c.follow_events.ensures.ends desk_told printed)

pub returns-in-Ok-clause-took : goal.returns-in-Ok-clause-took
returns-in-Ok-clause-took g c = λ desk_told source_told printed.
    took_valid c.args.p.now.given (choices_of c.args.plan.now) c.args.new_instance.now c.args.new_plan.now _ _ _ c.follow_events.result (c.follow_events.ensures.took desk_told source_told printed)

pub returns-in-Ok-clause-source : goal.returns-in-Ok-clause-source
returns-in-Ok-clause-source g c = λ invalid. absurd (invalid c.in-Ok.ensures.3)

-- ---- a broken rule

pub say_broken-requires : goal.say_broken-requires
say_broken-requires g c =
    let first : IsFirstBroken c.args.p.now.given (choices_of c.args.plan.now) c.in-Err-NotValid.broken = rw c.in-Err-NotValid.field-0-is at c.in-Err-NotValid.ensures in
    first.rule.in_range

pub returns-in-Err-NotValid-clause-ends : goal.returns-in-Err-NotValid-clause-ends
returns-in-Err-NotValid-clause-ends g c = λ desk_told printed.
    let p = c.args.p.now.given in
    let plan = choices_of c.args.plan.now in
    let broken = c.in-Err-NotValid.broken in
    let files = g.D.Desk.files c.args.desk.now in
    let source = told g.I.Source.tells (g.I.Source.rest c.args.input.now) in
    let first : IsFirstBroken p plan broken = rw c.in-Err-NotValid.field-0-is at c.in-Err-NotValid.ensures in
    ends_with_line (RepairsPlan source c.args.new_instance.now c.args.new_plan.now p plan (outside files printed)) (outside files printed) (broken_line p broken) Status.Negative c.say_broken.result c.say_broken.ensures
    (repairs_broken source c.args.new_instance.now c.args.new_plan.now p plan broken files printed first)

pub returns-in-Err-NotValid-clause-took : goal.returns-in-Err-NotValid-clause-took
returns-in-Err-NotValid-clause-took g c = λ desk_told source_told printed.
    let first : IsFirstBroken c.args.p.now.given (choices_of c.args.plan.now) c.in-Err-NotValid.broken = rw c.in-Err-NotValid.field-0-is at c.in-Err-NotValid.ensures in
    took_broken c.args.p.now.given (choices_of c.args.plan.now) c.args.new_instance.now c.args.new_plan.now _ _ _ c.in-Err-NotValid.broken c.say_broken.result first

-- ---- want of memory

pub returns-in-Err-Memory-clause-took : goal.returns-in-Err-Memory-clause-took
returns-in-Err-Memory-clause-took g c = λ desk_told source_told printed.
    took_valid c.args.p.now.given (choices_of c.args.plan.now) c.args.new_instance.now c.args.new_plan.now _ _ _ _ (took_no_memory c.args.p.now.given (choices_of c.args.plan.now) c.args.new_instance.now c.args.new_plan.now _ _ _)
