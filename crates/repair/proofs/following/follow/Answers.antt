use Rattle.base.proofs.Public.{◌≡◌, ◌+◌, ◌∙◌, refl, rules, arith, Err}
use Rattle.repair.specs.Prelude.{choices_of, phases_of}
use Rattle.executor.proofs.Public.{few_steps}
use Rattle.repair.proofs.EventLemmas.{after_event, ends_there, event_fewer, stops_there}
use Rattle.repair.proofs.following.follow.Goals as goal

pub overflow_add-lines : goal.overflow_add-lines
overflow_add-lines g c = omega (arith, c.turns.invariant.few, few_steps c.args.p.now.given c.args.p.now.sound (phases_of c.args.m.now))

pub overflow_add-lines-in-turns : goal.overflow_add-lines-in-turns
overflow_add-lines-in-turns g c = omega (arith, c.turns.invariant.few, few_steps c.args.p.now.given c.args.p.now.sound (phases_of c.args.m.now))

pub returns-in_err-ending-clause-follows : goal.returns-in_err-ending-clause-follows
returns-in_err-ending-clause-follows g c = λ told.
    let is : c.from_residual.result ≡ Err c.in_err-ending.field-0.0 = search rules in
    rw is
    (stops_there g.I.Source.tells c.args.p.now.given c.args.m.now.plan c.turns.m.plan _ (phases_of c.turns.m) (phases_of c.take_event.new.m) c.turns.lines (c.turns.lines + 1) (g.I.Source.rest c.turns.input) (g.I.Source.rest c.take_event.new.input) c.in_err-ending.field-0.0 c.in_err-ending.ensures.turn told (c.turns.invariant.reached told))

pub returns-in-Some-clause-follows : goal.returns-in-Some-clause-follows
returns-in-Some-clause-follows g c = λ told.
    ends_there g.I.Source.tells c.args.p.now.given c.args.m.now.plan c.turns.m.plan _ (phases_of c.turns.m) (phases_of c.take_event.new.m) c.turns.lines (c.turns.lines + 1) (g.I.Source.rest c.turns.input) (g.I.Source.rest c.take_event.new.input) c.in_ok-ending.field-0 c.in-Some.ending c.turns.invariant.plan c.in_ok-ending.ensures.turn c.in-Some.is refl told (c.turns.invariant.reached told)

pub turns-smaller : goal.turns-smaller
turns-smaller g c =
    let fewer = event_fewer g.I.Source.tells c.args.p.now.given (choices_of c.turns.m.plan) (c.turns.lines + 1) (phases_of c.turns.m) (phases_of c.take_event.new.m) (g.I.Source.rest c.turns.input) (g.I.Source.rest c.take_event.new.input) c.in_ok-ending.field-0 c.in_ok-ending.ensures.turn c.in_default.is in
    omega (arith, fewer)

pub turns-preserved : goal.turns-preserved
turns-preserved g c =
    let was = c.turns.invariant in
    let work = c.take_event.ensures.work in
    let fewer = event_fewer g.I.Source.tells c.args.p.now.given (choices_of c.turns.m.plan) (c.turns.lines + 1) (phases_of c.turns.m) (phases_of c.take_event.new.m) (g.I.Source.rest c.turns.input) (g.I.Source.rest c.take_event.new.input) c.in_ok-ending.field-0 c.in_ok-ending.ensures.turn c.in_default.is in
    let kept : g.I.Source.faults c.take_event.new.input ≡ g.I.Source.faults c.turns.input = search rules in
    record {
      reached = λ told.
          after_event g.I.Source.tells c.args.p.now.given c.args.m.now.plan c.turns.m.plan _ (phases_of c.turns.m) (phases_of c.take_event.new.m) c.turns.lines (c.turns.lines + 1) (g.I.Source.rest c.turns.input) (g.I.Source.rest c.take_event.new.input) c.in_ok-ending.field-0 was.plan c.in_ok-ending.ensures.turn c.in_default.is told (was.reached told);
      few = omega (arith, was.few, fewer);
      problem = work.problem ∙ was.problem;
      plan = work.plan ∙ was.plan;
      reads = kept ∙ was.reads;
    }
