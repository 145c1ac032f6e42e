use Rattle.base.proofs.Public.{◌≡◌, ◌+◌, ◌∙◌, sym, refl, rules, arith, further, Err}
use Rattle.transcript.specs.Prelude.{AllEnded, choices_of, IsDue, phases_of}
use Rattle.executor.proofs.Public.{few_steps, steps_left}
use Rattle.transcript.proofs.Steps.{after_end, after_quiet, after_start, all_done, due_after, end_fewer, line_ends, quiet_same, start_fewer, stops_in_event, stops_in_start}
use Rattle.transcript.proofs.running.follow.Goals as goal

pub turns-smaller-then-branch : goal.turns-smaller-then-branch
turns-smaller-then-branch g c =
    let fewer : steps_left c.args.p.now.given (phases_of c.start_next.new.m) + 1 ≡ steps_left c.args.p.now.given (phases_of c.turns.m) =
    start_fewer g.O.Sink.tells c.args.p.now.given (choices_of c.turns.m.plan) (phases_of c.turns.m) (phases_of c.start_next.new.m) (g.O.Sink.written c.turns.out) (g.O.Sink.written c.start_next.new.out) c.in_ok-start_next.field-0 c.in_ok-start_next.ensures.turn c.if-branch.true
    in
    omega (arith, fewer)

pub turns-preserved-then-branch : goal.turns-preserved-then-branch
turns-preserved-then-branch g c =
    let was = c.turns.invariant in
    let fewer : steps_left c.args.p.now.given (phases_of c.start_next.new.m) + 1 ≡ steps_left c.args.p.now.given (phases_of c.turns.m) =
    start_fewer g.O.Sink.tells c.args.p.now.given (choices_of c.turns.m.plan) (phases_of c.turns.m) (phases_of c.start_next.new.m) (g.O.Sink.written c.turns.out) (g.O.Sink.written c.start_next.new.out) c.in_ok-start_next.field-0 c.in_ok-start_next.ensures.turn c.if-branch.true
    in
    let kept : g.O.Sink.faults c.start_next.new.out ≡ g.O.Sink.faults c.turns.out = search rules in
    record {
      reached = λ i o. after_start g.O.Sink.tells c.args.p.now.given c.args.m.now.plan c.turns.m.plan _ (phases_of c.turns.m) (phases_of c.start_next.new.m) c.turns.lines (g.I.Source.rest c.turns.input) (g.O.Sink.written c.turns.out) (g.O.Sink.written c.start_next.new.out) c.in_ok-start_next.field-0 was.plan c.in_ok-start_next.ensures.turn c.if-branch.true o (was.reached i o);
      stays = λ o. further _ _ _ (was.stays o) (c.start_next.ensures.stays o);
      few = omega (arith, was.few, fewer);
      problem = c.start_next.ensures.work.problem ∙ was.problem;
      plan = c.start_next.ensures.work.plan ∙ was.plan;
      reads = was.reads;
      writes = kept ∙ was.writes;
    }

pub overflow_add-lines : goal.overflow_add-lines
overflow_add-lines g c =
    omega (arith, c.turns.invariant.few, few_steps c.args.p.now.given c.args.p.now.sound (phases_of c.args.m.now))

pub overflow_add-lines-in-turns : goal.overflow_add-lines-in-turns
overflow_add-lines-in-turns g c =
    omega (arith, c.turns.invariant.few, few_steps c.args.p.now.given c.args.p.now.sound (phases_of c.args.m.now))

pub take_event-requires-clause-due : goal.take_event-requires-clause-due
take_event-requires-clause-due g c =
    let unended : ¬ AllEnded (phases_of c.turns.m) = search rules in
    due_after g.O.Sink.tells c.args.p.now.given c.start_next.new.m.plan c.turns.m.plan (phases_of c.turns.m) (phases_of c.start_next.new.m) (g.O.Sink.written c.turns.out) (g.O.Sink.written c.start_next.new.out) c.in_ok-start_next.field-0 (sym c.start_next.ensures.work.plan) c.in_ok-start_next.ensures.turn c.if-branch.false unended

pub returns-in_err-start_next-clause-run : goal.returns-in_err-start_next-clause-run
returns-in_err-start_next-clause-run g c = λ i o.
    let is : c.from_residual.result ≡ Err c.in_err-start_next.field-0.0 = search rules in
    rw is
    (stops_in_start g.O.Sink.tells c.args.p.now.given c.args.m.now.plan c.turns.m.plan _ (phases_of c.turns.m) (phases_of c.start_next.new.m) c.turns.lines (g.I.Source.rest c.turns.input) (g.O.Sink.written c.turns.out) (g.O.Sink.written c.start_next.new.out) c.in_err-start_next.field-0.0 c.turns.invariant.plan c.in_err-start_next.ensures.turn o (c.turns.invariant.reached i o))

pub returns-in_err-conclusion-clause-run : goal.returns-in_err-conclusion-clause-run
returns-in_err-conclusion-clause-run g c = λ i o.
    let was = c.turns.invariant in
    let unended : ¬ AllEnded (phases_of c.turns.m) = search rules in
    let plan : c.start_next.new.m.plan ≡ c.args.m.now.plan = c.start_next.ensures.work.plan ∙ was.plan in
    let due : IsDue c.args.p.now.given (choices_of c.args.m.now.plan) (phases_of c.start_next.new.m) =
    due_after g.O.Sink.tells c.args.p.now.given c.args.m.now.plan c.turns.m.plan (phases_of c.turns.m) (phases_of c.start_next.new.m) (g.O.Sink.written c.turns.out) (g.O.Sink.written c.start_next.new.out) c.in_ok-start_next.field-0 was.plan c.in_ok-start_next.ensures.turn c.if-branch.false unended
    in
    let is : c.from_residual-in_err-conclusion.result ≡ Err c.in_err-conclusion.field-0.0 = search rules in
    rw is
    (stops_in_event g.I.Source.tells c.args.p.now.given c.args.m.now.plan c.start_next.new.m.plan _ (phases_of c.start_next.new.m) (phases_of c.take_event.new.m) c.turns.lines (c.turns.lines + 1) (g.I.Source.rest c.turns.input) (g.I.Source.rest c.take_event.new.input) (g.O.Sink.written c.start_next.new.out) c.in_err-conclusion.field-0.0 plan due c.in_err-conclusion.ensures.turn i
    (after_quiet g.O.Sink.tells c.args.p.now.given c.args.m.now.plan c.turns.m.plan _ (phases_of c.turns.m) (phases_of c.start_next.new.m) c.turns.lines (g.I.Source.rest c.turns.input) (g.O.Sink.written c.turns.out) (g.O.Sink.written c.start_next.new.out) c.in_ok-start_next.field-0 c.in_ok-start_next.ensures.turn c.if-branch.false o (was.reached i o)))

pub returns-in-Some-clause-run : goal.returns-in-Some-clause-run
returns-in-Some-clause-run g c = λ i o.
    let was = c.turns.invariant in
    let plan : c.start_next.new.m.plan ≡ c.args.m.now.plan = c.start_next.ensures.work.plan ∙ was.plan in
    line_ends g.I.Source.tells c.args.p.now.given c.args.m.now.plan c.start_next.new.m.plan _ (phases_of c.start_next.new.m) (phases_of c.take_event.new.m) c.turns.lines (c.turns.lines + 1) (g.I.Source.rest c.turns.input) (g.I.Source.rest c.take_event.new.input) (g.O.Sink.written c.start_next.new.out) c.in_ok-conclusion.field-0 c.in-Some.conclusion plan c.in_ok-conclusion.ensures.turn c.in-Some.is refl i
    (after_quiet g.O.Sink.tells c.args.p.now.given c.args.m.now.plan c.turns.m.plan _ (phases_of c.turns.m) (phases_of c.start_next.new.m) c.turns.lines (g.I.Source.rest c.turns.input) (g.O.Sink.written c.turns.out) (g.O.Sink.written c.start_next.new.out) c.in_ok-start_next.field-0 c.in_ok-start_next.ensures.turn c.if-branch.false o (was.reached i o))

pub turns-smaller : goal.turns-smaller
turns-smaller g c =
    let same = quiet_same g.O.Sink.tells c.args.p.now.given (choices_of c.turns.m.plan) (phases_of c.turns.m) (phases_of c.start_next.new.m) (g.O.Sink.written c.turns.out) (g.O.Sink.written c.start_next.new.out) c.in_ok-start_next.field-0 c.in_ok-start_next.ensures.turn c.if-branch.false in
    let fewer = end_fewer g.I.Source.tells c.args.p.now.given (choices_of c.start_next.new.m.plan) (c.turns.lines + 1) (phases_of c.start_next.new.m) (phases_of c.take_event.new.m) (g.I.Source.rest c.turns.input) (g.I.Source.rest c.take_event.new.input) c.in_ok-conclusion.field-0 c.in_ok-conclusion.ensures.turn c.in_default.is in
    omega (arith, same, fewer)

pub turns-preserved : goal.turns-preserved
turns-preserved g c =
    let was = c.turns.invariant in
    let work = c.start_next.ensures.work in
    let plan : c.start_next.new.m.plan ≡ c.args.m.now.plan = work.plan ∙ was.plan in
    let same = quiet_same g.O.Sink.tells c.args.p.now.given (choices_of c.turns.m.plan) (phases_of c.turns.m) (phases_of c.start_next.new.m) (g.O.Sink.written c.turns.out) (g.O.Sink.written c.start_next.new.out) c.in_ok-start_next.field-0 c.in_ok-start_next.ensures.turn c.if-branch.false in
    let fewer = end_fewer g.I.Source.tells c.args.p.now.given (choices_of c.start_next.new.m.plan) (c.turns.lines + 1) (phases_of c.start_next.new.m) (phases_of c.take_event.new.m) (g.I.Source.rest c.turns.input) (g.I.Source.rest c.take_event.new.input) c.in_ok-conclusion.field-0 c.in_ok-conclusion.ensures.turn c.in_default.is in
    let read_kept : g.I.Source.faults c.take_event.new.input ≡ g.I.Source.faults c.turns.input = search rules in
    let write_kept : g.O.Sink.faults c.start_next.new.out ≡ g.O.Sink.faults c.turns.out = search rules in
    record {
      reached = λ i o.
          after_end g.I.Source.tells c.args.p.now.given c.args.m.now.plan c.start_next.new.m.plan _ (phases_of c.start_next.new.m) (phases_of c.take_event.new.m) c.turns.lines (c.turns.lines + 1) (g.I.Source.rest c.turns.input) (g.I.Source.rest c.take_event.new.input) (g.O.Sink.written c.start_next.new.out) c.in_ok-conclusion.field-0 plan c.in_ok-conclusion.ensures.turn c.in_default.is i
          (after_quiet g.O.Sink.tells c.args.p.now.given c.args.m.now.plan c.turns.m.plan _ (phases_of c.turns.m) (phases_of c.start_next.new.m) c.turns.lines (g.I.Source.rest c.turns.input) (g.O.Sink.written c.turns.out) (g.O.Sink.written c.start_next.new.out) c.in_ok-start_next.field-0 c.in_ok-start_next.ensures.turn c.if-branch.false o (was.reached i o));
      stays = λ o. further _ _ _ (was.stays o) (c.start_next.ensures.stays o);
      few = omega (arith, was.few, same, fewer);
      problem = c.take_event.ensures.work.problem ∙ work.problem ∙ was.problem;
      plan = c.take_event.ensures.work.plan ∙ plan;
      reads = read_kept ∙ was.reads;
      writes = write_kept ∙ was.writes;
    }

pub returns-clause-run : goal.returns-clause-run
returns-clause-run g c = λ i o.
    let ended : AllEnded (phases_of c.turns.m) = search rules in
    all_done c.args.p.now.given (choices_of c.args.m.now.plan) _ (phases_of c.turns.m) c.turns.lines (g.I.Source.rest c.turns.input) (g.O.Sink.written c.turns.out) ended (c.turns.invariant.reached i o)
