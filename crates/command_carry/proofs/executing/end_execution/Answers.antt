use Rattle.std.proofs.Common.{◌≡◌, ℕ, List, ◌++◌, sym, ap, subst}
use Rattle.command_carry.specs.Prelude.{broken_line, choices_of, conclusion_line, conclusion_status, Executes, IsFirstBroken, IsValid, outside, taking, told, TookBy, WriteFault}
use Rattle.transcript.specs.declared.conclusion.ExecuteFault.TheVariants.{ReadFault, Memory}
use Rattle.command_frame.specs.declared.status.Status.{Status}
use Rattle.command_carry.proofs.ExecuteAnswers.{executes_broken, executes_conclusion, part_of_broken, part_of_conclusion, part_of_fault, took_broken, took_conclusion, took_memory, took_read, took_write}
use Rattle.command_frame.proofs.Public.{anyhow_with_line, ends_with_line}
use Rattle.command_carry.proofs.executing.end_execution.Goals as goal

-- ---- a conclusion

pub returns-in-Ok-clause-ends : goal.returns-in-Ok-clause-ends
returns-in-Ok-clause-ends g c = λ sink_told files.
    let p = c.args.p.now.given in
    let plan = choices_of c.args.plan.now in
    let before = g.O.Sink.written c.args.out.now in
    let now = g.O.Sink.written c.execute.new.out in
    let bytes = g.I.Source.rest c.args.input.now in
    ends_with_line (Executes (told g.I.Source.tells bytes) p plan (outside files before)) (outside files now) (conclusion_line p c.in-Ok.conclusion) (conclusion_status c.in-Ok.conclusion) c.conclude.result c.conclude.ensures
    (executes_conclusion g.I.Source.tells p plan bytes (g.I.Source.rest c.execute.new.input) before now c.in-Ok.conclusion files c.in-Ok.ensures.judged (λ source_told. c.in-Ok.ensures.transcript source_told sink_told))

pub returns-in-Ok-clause-part : goal.returns-in-Ok-clause-part
returns-in-Ok-clause-part g c = λ sink_told files.
    part_of_conclusion g.I.Source.tells c.args.p.now.given (choices_of c.args.plan.now) (g.I.Source.rest c.args.input.now) (g.I.Source.rest c.execute.new.input) (g.O.Sink.written c.args.out.now) (g.O.Sink.written c.execute.new.out) c.in-Ok.conclusion files c.in-Ok.ensures.judged
    (λ source_told. c.in-Ok.ensures.transcript source_told sink_told)

pub returns-in-Ok-clause-took : goal.returns-in-Ok-clause-took
returns-in-Ok-clause-took g c = λ source_told sink_told files.
    let p = c.args.p.now.given in
    let plan = choices_of c.args.plan.now in
    let before = g.O.Sink.written c.args.out.now in
    let now = g.O.Sink.written c.execute.new.out in
    let change = taking (g.I.Source.rest c.args.input.now) (g.I.Source.rest c.execute.new.input) (g.I.Source.faults c.args.input.now) (g.I.Source.faults c.execute.new.input) in
    anyhow_with_line (TookBy p plan change before) (outside files now) (conclusion_line p c.in-Ok.conclusion) (conclusion_status c.in-Ok.conclusion) c.conclude.result c.conclude.ensures
    (took_conclusion p plan change before now c.in-Ok.conclusion files (c.in-Ok.ensures.transcript source_told sink_told))

pub returns-in-Ok-clause-source : goal.returns-in-Ok-clause-source
returns-in-Ok-clause-source g c = λ invalid. absurd (invalid c.in-Ok.ensures.judged)

-- ---- a broken rule

pub say_broken-requires : goal.say_broken-requires
say_broken-requires g c =
    let first : IsFirstBroken c.args.p.now.given (choices_of c.args.plan.now) c.in-Err-NotValid.broken = rw c.in-Err-NotValid.field-0-is at c.in-Err-NotValid.ensures.judged in
    first.rule.in_range

pub returns-in-Err-NotValid-clause-ends : goal.returns-in-Err-NotValid-clause-ends
returns-in-Err-NotValid-clause-ends g c = λ sink_told files.
    let p = c.args.p.now.given in
    let plan = choices_of c.args.plan.now in
    let broken = c.in-Err-NotValid.broken in
    let before = g.O.Sink.written c.args.out.now in
    let now = g.O.Sink.written c.execute.new.out in
    let source = told g.I.Source.tells (g.I.Source.rest c.args.input.now) in
    let first : IsFirstBroken p plan broken = rw c.in-Err-NotValid.field-0-is at c.in-Err-NotValid.ensures.judged in
    let same : c.execute.new.out ≡ c.args.out.now = rw c.in-Err-NotValid.field-0-is at c.in-Err-NotValid.ensures.sink in
    ends_with_line (Executes source p plan (outside files before)) (outside files now) (broken_line p broken) Status.Negative c.say_broken.result c.say_broken.ensures
    (subst (λ (l : List ℕ). Executes source p plan (outside files before) (outside files (l ++ broken_line p broken)) Status.Negative) (sym (ap g.O.Sink.written same)) (executes_broken source p plan broken files before first))

pub returns-in-Err-NotValid-clause-part : goal.returns-in-Err-NotValid-clause-part
returns-in-Err-NotValid-clause-part g c = λ sink_told files.
    let p = c.args.p.now.given in
    let plan = choices_of c.args.plan.now in
    let broken = c.in-Err-NotValid.broken in
    let first : IsFirstBroken p plan broken = rw c.in-Err-NotValid.field-0-is at c.in-Err-NotValid.ensures.judged in
    let same : c.execute.new.out ≡ c.args.out.now = rw c.in-Err-NotValid.field-0-is at c.in-Err-NotValid.ensures.sink in
    part_of_broken (told g.I.Source.tells (g.I.Source.rest c.args.input.now)) p plan broken files (g.O.Sink.written c.args.out.now) (g.O.Sink.written c.execute.new.out) first (ap g.O.Sink.written same)

pub returns-in-Err-NotValid-clause-took : goal.returns-in-Err-NotValid-clause-took
returns-in-Err-NotValid-clause-took g c = λ source_told sink_told files.
    let p = c.args.p.now.given in
    let plan = choices_of c.args.plan.now in
    let broken = c.in-Err-NotValid.broken in
    let before = g.O.Sink.written c.args.out.now in
    let now = g.O.Sink.written c.execute.new.out in
    let change = taking (g.I.Source.rest c.args.input.now) (g.I.Source.rest c.execute.new.input) (g.I.Source.faults c.args.input.now) (g.I.Source.faults c.execute.new.input) in
    let first : IsFirstBroken p plan broken = rw c.in-Err-NotValid.field-0-is at c.in-Err-NotValid.ensures.judged in
    anyhow_with_line (TookBy p plan change before) (outside files now) (broken_line p broken) Status.Negative c.say_broken.result c.say_broken.ensures
    (took_broken p plan change before (broken_line p broken) broken (outside files now) Status.Negative first)

pub returns-in-Err-NotValid-clause-source : goal.returns-in-Err-NotValid-clause-source
returns-in-Err-NotValid-clause-source g c = λ invalid.
    let same : c.execute.new.input ≡ c.args.input.now = rw c.in-Err-NotValid.field-0-is at c.in-Err-NotValid.ensures.source in
    same

-- ---- a failed read

pub returns-in-Err-ReadFault-clause-part : goal.returns-in-Err-ReadFault-clause-part
returns-in-Err-ReadFault-clause-part g c = λ sink_told files.
    let p = c.args.p.now.given in
    let plan = choices_of c.args.plan.now in
    let valid : IsValid p plan = rw c.in-Err-ReadFault.field-0-is at c.in-Err-ReadFault.ensures.judged in
    part_of_fault g.I.Source.tells p c.args.plan.now (g.I.Source.rest c.args.input.now) (g.I.Source.rest c.execute.new.input) (g.O.Sink.written c.args.out.now) (g.O.Sink.written c.execute.new.out) ReadFault files c.requires valid
    (λ source_told. rw c.in-Err-ReadFault.field-0-is at (c.in-Err-ReadFault.ensures.transcript source_told sink_told))

pub returns-in-Err-ReadFault-clause-took : goal.returns-in-Err-ReadFault-clause-took
returns-in-Err-ReadFault-clause-took g c = λ source_told sink_told files.
    let p = c.args.p.now.given in
    let plan = choices_of c.args.plan.now in
    let before = g.O.Sink.written c.args.out.now in
    let now = g.O.Sink.written c.execute.new.out in
    let change = taking (g.I.Source.rest c.args.input.now) (g.I.Source.rest c.execute.new.input) (g.I.Source.faults c.args.input.now) (g.I.Source.faults c.execute.new.input) in
    took_read p plan change before (outside files now) (rw c.in-Err-ReadFault.field-0-is at (c.in-Err-ReadFault.ensures.transcript source_told sink_told))

pub returns-in-Err-ReadFault-clause-source : goal.returns-in-Err-ReadFault-clause-source
returns-in-Err-ReadFault-clause-source g c = λ invalid.
    let valid : IsValid c.args.p.now.given (choices_of c.args.plan.now) = rw c.in-Err-ReadFault.field-0-is at c.in-Err-ReadFault.ensures.judged in
    absurd (invalid valid)

-- ---- a failed write

pub returns-in-Err-WriteFault-clause-part : goal.returns-in-Err-WriteFault-clause-part
returns-in-Err-WriteFault-clause-part g c = λ sink_told files.
    let p = c.args.p.now.given in
    let plan = choices_of c.args.plan.now in
    let valid : IsValid p plan = rw c.in-Err-WriteFault.field-0-is at c.in-Err-WriteFault.ensures.judged in
    part_of_fault g.I.Source.tells p c.args.plan.now (g.I.Source.rest c.args.input.now) (g.I.Source.rest c.execute.new.input) (g.O.Sink.written c.args.out.now) (g.O.Sink.written c.execute.new.out) WriteFault files c.requires valid
    (λ source_told. rw c.in-Err-WriteFault.field-0-is at (c.in-Err-WriteFault.ensures.transcript source_told sink_told))

pub returns-in-Err-WriteFault-clause-took : goal.returns-in-Err-WriteFault-clause-took
returns-in-Err-WriteFault-clause-took g c = λ source_told sink_told files.
    let p = c.args.p.now.given in
    let plan = choices_of c.args.plan.now in
    let before = g.O.Sink.written c.args.out.now in
    let now = g.O.Sink.written c.execute.new.out in
    let change = taking (g.I.Source.rest c.args.input.now) (g.I.Source.rest c.execute.new.input) (g.I.Source.faults c.args.input.now) (g.I.Source.faults c.execute.new.input) in
    took_write p plan change before (outside files now) (rw c.in-Err-WriteFault.field-0-is at (c.in-Err-WriteFault.ensures.transcript source_told sink_told))

pub returns-in-Err-WriteFault-clause-source : goal.returns-in-Err-WriteFault-clause-source
returns-in-Err-WriteFault-clause-source g c = λ invalid.
    let valid : IsValid c.args.p.now.given (choices_of c.args.plan.now) = rw c.in-Err-WriteFault.field-0-is at c.in-Err-WriteFault.ensures.judged in
    absurd (invalid valid)

-- ---- want of memory

pub returns-in-Err-Memory-clause-part : goal.returns-in-Err-Memory-clause-part
returns-in-Err-Memory-clause-part g c = λ sink_told files.
    let p = c.args.p.now.given in
    let plan = choices_of c.args.plan.now in
    let valid : IsValid p plan = rw c.in-Err-Memory.field-0-is at c.in-Err-Memory.ensures.judged in
    part_of_fault g.I.Source.tells p c.args.plan.now (g.I.Source.rest c.args.input.now) (g.I.Source.rest c.execute.new.input) (g.O.Sink.written c.args.out.now) (g.O.Sink.written c.execute.new.out) Memory files c.requires valid
    (λ source_told. rw c.in-Err-Memory.field-0-is at (c.in-Err-Memory.ensures.transcript source_told sink_told))

pub returns-in-Err-Memory-clause-took : goal.returns-in-Err-Memory-clause-took
returns-in-Err-Memory-clause-took g c = λ source_told sink_told files.
    let p = c.args.p.now.given in
    let plan = choices_of c.args.plan.now in
    let before = g.O.Sink.written c.args.out.now in
    let now = g.O.Sink.written c.execute.new.out in
    let change = taking (g.I.Source.rest c.args.input.now) (g.I.Source.rest c.execute.new.input) (g.I.Source.faults c.args.input.now) (g.I.Source.faults c.execute.new.input) in
    took_memory p plan change before (outside files now)

pub returns-in-Err-Memory-clause-source : goal.returns-in-Err-Memory-clause-source
returns-in-Err-Memory-clause-source g c = λ invalid.
    let valid : IsValid c.args.p.now.given (choices_of c.args.plan.now) = rw c.in-Err-Memory.field-0-is at c.in-Err-Memory.ensures.judged in
    absurd (invalid valid)
