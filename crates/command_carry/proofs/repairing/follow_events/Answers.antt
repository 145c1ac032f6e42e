use Rattle.std.proofs.Common.{Err, refl}
use Rattle.repair.specs.declared.following.Ending.TheVariants.{AllRead, Refused}
use Rattle.command_carry.specs.Prelude.{choices_of, outside, phases_of, refused_line, taking}
use Rattle.command_carry.proofs.RepairAnswers.{ends_followed, leaves_some, refusal_ends, refusal_is_no_read, took_followed, took_no_memory, took_stopped}
use Rattle.command_carry.proofs.repairing.follow_events.Goals as goal

-- ---- all events were taken

pub returns-in-Ok-AllRead-clause-ends : goal.returns-in-Ok-AllRead-clause-ends
returns-in-Ok-AllRead-clause-ends g c = λ told printed.
    ends_followed g.I.Source.tells c.args.p.now.given (choices_of c.args.plan.now) c.args.new_instance.now c.args.new_plan.now (g.I.Source.rest c.args.input.now) (g.I.Source.rest c.follow_all.new.input) (phases_of c.follow_all.new.m) AllRead _ _ c.end_repair.result c.in-Ok-AllRead.ensures.execution
    (λ source_told. rw c.in-Ok-AllRead.field-0-is at (c.in-Ok-AllRead.ensures.follows source_told)) (c.end_repair.ensures.ends told printed)

pub returns-in-Ok-AllRead-clause-left : goal.returns-in-Ok-AllRead-clause-left
returns-in-Ok-AllRead-clause-left g c = λ told.
    leaves_some c.args.p.now.given (choices_of c.args.plan.now) (phases_of c.follow_all.new.m) c.args.new_instance.now c.args.new_plan.now _ _ c.requires.valid c.in-Ok-AllRead.ensures.execution (c.end_repair.ensures.left told)

pub returns-in-Ok-AllRead-clause-took : goal.returns-in-Ok-AllRead-clause-took
returns-in-Ok-AllRead-clause-took g c = λ told source_told printed.
    let change = taking (g.I.Source.rest c.args.input.now) (g.I.Source.rest c.follow_all.new.input) (g.I.Source.faults c.args.input.now) (g.I.Source.faults c.follow_all.new.input) in
    took_followed c.args.p.now.given (choices_of c.args.plan.now) c.args.new_instance.now c.args.new_plan.now change (outside (g.D.Desk.files c.args.desk.now) printed) (outside (g.D.Desk.files c.end_repair.new.desk) printed) (phases_of c.follow_all.new.m) AllRead c.end_repair.result
    (rw c.in-Ok-AllRead.field-0-is at (c.in-Ok-AllRead.ensures.follows source_told)) c.end_repair.ensures.read (c.end_repair.ensures.ends told printed) (c.end_repair.ensures.left told)

-- ---- a line is refused

pub returns-in-Ok-Refused-clause-ends : goal.returns-in-Ok-Refused-clause-ends
returns-in-Ok-Refused-clause-ends g c = λ told printed.
    let files = g.D.Desk.files c.args.desk.now in
    ends_followed g.I.Source.tells c.args.p.now.given (choices_of c.args.plan.now) c.args.new_instance.now c.args.new_plan.now (g.I.Source.rest c.args.input.now) (g.I.Source.rest c.follow_all.new.input) (phases_of c.follow_all.new.m) (Refused c.in-Ok-Refused.number c.in-Ok-Refused.fault) (outside files printed) (outside files printed) (Err c.refused_event.result) c.in-Ok-Refused.ensures.execution
    (λ source_told. rw c.in-Ok-Refused.field-0-is at (c.in-Ok-Refused.ensures.follows source_told))
    (refusal_ends (refused_line c.in-Ok-Refused.number c.in-Ok-Refused.fault) files printed c.refused_event.result c.refused_event.ensures)

pub returns-in-Ok-Refused-clause-took : goal.returns-in-Ok-Refused-clause-took
returns-in-Ok-Refused-clause-took g c = λ told source_told printed.
    let files = g.D.Desk.files c.args.desk.now in
    let change = taking (g.I.Source.rest c.args.input.now) (g.I.Source.rest c.follow_all.new.input) (g.I.Source.faults c.args.input.now) (g.I.Source.faults c.follow_all.new.input) in
    took_followed c.args.p.now.given (choices_of c.args.plan.now) c.args.new_instance.now c.args.new_plan.now change (outside files printed) (outside files printed) (phases_of c.follow_all.new.m) (Refused c.in-Ok-Refused.number c.in-Ok-Refused.fault) (Err c.refused_event.result)
    (rw c.in-Ok-Refused.field-0-is at (c.in-Ok-Refused.ensures.follows source_told)) (refusal_is_no_read c.refused_event.result (refused_line c.in-Ok-Refused.number c.in-Ok-Refused.fault) c.refused_event.ensures)
    (refusal_ends (refused_line c.in-Ok-Refused.number c.in-Ok-Refused.fault) files printed c.refused_event.result c.refused_event.ensures) refl

-- ---- no line was taken

pub returns-in-Err-ReadFault-clause-took : goal.returns-in-Err-ReadFault-clause-took
returns-in-Err-ReadFault-clause-took g c = λ told source_told printed.
    let change = taking (g.I.Source.rest c.args.input.now) (g.I.Source.rest c.follow_all.new.input) (g.I.Source.faults c.args.input.now) (g.I.Source.faults c.follow_all.new.input) in
    took_stopped c.args.p.now.given (choices_of c.args.plan.now) c.args.new_instance.now c.args.new_plan.now change (g.D.Desk.files c.args.desk.now) printed (phases_of c.follow_all.new.m) (rw c.in-Err-ReadFault.field-0-is at (c.in-Err-ReadFault.ensures.follows source_told))

pub returns-in-Err-Memory-clause-took : goal.returns-in-Err-Memory-clause-took
returns-in-Err-Memory-clause-took g c = λ told source_told printed.
    let change = taking (g.I.Source.rest c.args.input.now) (g.I.Source.rest c.follow_all.new.input) (g.I.Source.faults c.args.input.now) (g.I.Source.faults c.follow_all.new.input) in
    took_no_memory c.args.p.now.given (choices_of c.args.plan.now) c.args.new_instance.now c.args.new_plan.now change (outside (g.D.Desk.files c.args.desk.now) printed) (outside (g.D.Desk.files c.args.desk.now) printed)
