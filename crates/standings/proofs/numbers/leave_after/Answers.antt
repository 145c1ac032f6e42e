use Rattle.standings.proofs.{Prelude.sym, Prelude.◌∙◌, Prelude.leave_of, ChangeLemmas.floor_before, ChangeLemmas.least_kept, ChangeLemmas.least_met, ChangeLemmas.least_stays}
use Rattle.standings.proofs.numbers.leave_after.Goals as goal

pub returns-in-None : goal.returns-in-None
returns-in-None c =
    least_kept (leave_of c.args.p.now.given c.args.v.0) c.args.lost c.args.domain.now c.args.old c.requires.fewer c.requires.was (sym c.lowest_lost.ensures ∙ c.in-None.is)

pub returns-then-old-first : goal.returns-then-old-first
returns-then-old-first c =
    least_stays (leave_of c.args.p.now.given c.args.v.0) c.args.lost c.args.domain.now c.args.old c.in-Some.first c.requires.fewer c.requires.was (sym c.lowest_lost.ensures ∙ c.in-Some.is) c.if-old-first.true

pub returns-then-is_left_by : goal.returns-then-is_left_by
returns-then-is_left_by c =
    let early = c.is_left_by.ensures c.if-is_left_by.true in
    least_met (leave_of c.args.p.now.given c.args.v.0) c.args.lost c.args.domain.now c.args.old c.in-Some.first early.0 c.requires.fewer c.requires.was (sym c.lowest_lost.ensures ∙ c.in-Some.is) early.1 early.2

pub leave_from-requires-clause-floor : goal.leave_from-requires-clause-floor
leave_from-requires-clause-floor c = floor_before (leave_of c.args.p.now.given c.args.v.0) c.args.lost c.args.domain.now c.args.old c.requires.fewer c.requires.was
