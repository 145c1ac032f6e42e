use Rattle.std.proofs.Common.{subst}
use Rattle.transcript.specs.Prelude.{choices_of, first_point, phases_of, point, RunGives}
use Rattle.transcript.proofs.Steps.{executes, stops_at_first}
use Rattle.transcript.proofs.running.execute.Goals as goal

pub returns-in-Err-Memory-clause-transcript : goal.returns-in-Err-Memory-clause-transcript
returns-in-Err-Memory-clause-transcript g c = λ i o.
    let valid = rw c.in-Err-Memory.field-0-is at c.in-Err-Memory.ensures in
    (valid, stops_at_first c.args.p.now.given (choices_of c.args.plan.now) (first_point (choices_of c.args.plan.now) (g.I.Source.rest c.args.input.now) (g.O.Sink.written c.args.out.now)))

pub returns-clause-transcript : goal.returns-clause-transcript
returns-clause-transcript g c = λ i o.
    let made = c.in-Ok.ensures in
    executes c.args.p.now.given c.args.plan.now (phases_of c.in-Ok.m) (g.I.Source.rest c.args.input.now) (g.O.Sink.written c.args.out.now) (g.I.Source.rest c.follow.new.input) (g.O.Sink.written c.follow.new.out) c.follow.result made.2 made.3
    (subst (λ plan. RunGives c.args.p.now.given (choices_of plan) (point (phases_of c.in-Ok.m) 0 (g.I.Source.rest c.args.input.now) (g.O.Sink.written c.args.out.now)) c.follow.result (g.I.Source.rest c.follow.new.input) (g.O.Sink.written c.follow.new.out)) made.1 (c.follow.ensures.run i o))
