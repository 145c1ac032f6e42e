use Rattle.closing.proofs.{Prelude.refl, Prelude.rules, Prelude.arith, EndLemmas.fails_of_rows, EndLemmas.row_is_end}
use Rattle.closing.proofs.shared.ends.end_that.Goals as goal

pub returns-in-Some-clause-some : goal.returns-in-Some-clause-some
returns-in-Some-clause-some g c = row_is_end (g.T.Test.meant c.args.test.now) c.args.domain.now c.rows-rows.result.now c.loop-i.i c.in-Some.c c.rows-rows.ensures.items c.rows-rows.ensures.climbs (omega arith) c.in-Some.ensures.some

pub returns-clause-none : goal.returns-clause-none
returns-clause-none g c = fails_of_rows (g.T.Test.meant c.args.test.now) c.args.domain.now c.args.domain.now.idle c.rows-rows.result.now refl c.rows-rows.ensures.items c.rows-rows.ensures.climbs (search rules)
