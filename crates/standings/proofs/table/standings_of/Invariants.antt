use Rattle.standings.proofs.Prelude.{AreStandingUpTo, sets}
use Rattle.standings.proofs.table.standings_of.Given as goal

abbrev pub invariant-loop-i : goal.invariant-loop-i
invariant-loop-i l = AreStandingUpTo l.p.given (sets l.g) l.i l.standings.items
