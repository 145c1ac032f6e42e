use Rattle.power_bounds.proofs.Prelude.{sets}
use Rattle.power_bounds.proofs.PowerLemmas.{RowsOff}
use Rattle.power_bounds.proofs.power.stays_off.Given as goal

abbrev pub invariant-loop-i : goal.invariant-loop-i
invariant-loop-i l = RowsOff l.p.given (sets l.g) l.x l.n.0 l.rows l.i
