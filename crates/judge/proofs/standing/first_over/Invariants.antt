use Rattle.judge.specs.Prelude.{cell, LoadsFit}
use Rattle.judge.proofs.standing.first_over.Given as goal

abbrev pub invariant-loop-i : goal.invariant-loop-i
invariant-loop-i l = LoadsFit l.p.given (cell l.table) l.i
