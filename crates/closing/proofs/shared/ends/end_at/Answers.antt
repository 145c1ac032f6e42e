use Rattle.closing.proofs.Prelude.{IfNone, IfSome, Option, Some, None, filter, Choice, choices, FailAtEnds, From, in_part, IsEndThat}
use Rattle.closing.proofs.EndLemmas.{end_at_place, fails_at_place}
use Rattle.closing.proofs.shared.ends.end_at.Goals as goal

pub returns-clause-none : goal.returns-clause-none
returns-clause-none g c = by c.end_that.result (rw c.inside-there.ensures.set at c.end_that.ensures.none)
  where
    by : (o : Option Choice) → IfNone o (FailAtEnds (g.T.Test.meant c.args.test.now) (filter (in_part (From c.args.place 0)) (choices c.args.domain.now))) → IfNone o (FailAtEnds (g.T.Test.meant c.args.test.now) (choices c.args.domain.now))
    by None h = fails_at_place (g.T.Test.meant c.args.test.now) c.args.place (choices c.args.domain.now) c.requires.only h
    by (Some x) h = tt

pub returns-clause-some : goal.returns-clause-some
returns-clause-some g c = by c.end_that.result (rw c.inside-there.ensures.set at c.end_that.ensures.some)
  where
    by : (o : Option Choice) → IfSome o (IsEndThat (g.T.Test.meant c.args.test.now) (filter (in_part (From c.args.place 0)) (choices c.args.domain.now))) → IfSome o (IsEndThat (g.T.Test.meant c.args.test.now) (choices c.args.domain.now))
    by None h = tt
    by (Some x) h = end_at_place (g.T.Test.meant c.args.test.now) c.args.place (choices c.args.domain.now) x h
