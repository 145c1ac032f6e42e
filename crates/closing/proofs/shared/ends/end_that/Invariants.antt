use Rattle.closing.proofs.Prelude.{FailAtRows}
use Rattle.closing.proofs.shared.ends.end_that.Given as goal

abbrev pub invariant-loop-i : goal.invariant-loop-i
invariant-loop-i g l = FailAtRows (g.T.Test.meant l.test) l.domain.idle l.rows l.i
