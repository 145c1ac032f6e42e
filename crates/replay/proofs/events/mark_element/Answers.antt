use Rattle.std.proofs.Common.{◌<◌, false, length, slice_index_or, sym, ◌∙◌, arith}
use Rattle.slices.proofs.Public.{legal_acts_last}
use Rattle.slices.specs.Plans.{choices_of}
use Rattle.replay.proofs.Marks.{both_marked, turns_marked}
use Rattle.replay.proofs.events.mark_element.Goals as goal

pub bounds-marks-start : goal.bounds-marks-start
bounds-marks-start c =
    let legal = rw (sym c.choice.ensures ∙ c.in-Act.is) at (c.requires.plan.legal c.args.e c.requires.element) in
    omega (arith, c.requires.room, (legal_acts_last c.args.p.now.given c.args.p.now.sound c.args.e c.in-Act.place c.in-Act.start legal).1)

pub returns-in-Act : goal.returns-in-Act
returns-in-Act c = λ t.
    let legal = rw (sym c.choice.ensures ∙ c.in-Act.is) at (c.requires.plan.legal c.args.e c.requires.element) in
    let starts : c.in-Act.start < length c.args.marks.now = omega (arith, c.requires.room, (legal_acts_last c.args.p.now.given c.args.p.now.sound c.args.e c.in-Act.place c.in-Act.start legal).1) in
    let ends : c.end_in.result < length c.args.marks.now = omega (arith, c.requires.room, c.end_in.ensures.in_time) in
    both_marked c.args.marks.now c.in-Act.start c.end_in.result t starts ends
    ∙ turns_marked c.args.p.now.given c.args.e (choices_of c.args.plan.now c.args.e) c.in-Act.place c.in-Act.start c.end_in.result t (slice_index_or c.args.marks.now t false) (sym c.choice.ensures ∙ c.in-Act.is) c.end_in.ensures.end
