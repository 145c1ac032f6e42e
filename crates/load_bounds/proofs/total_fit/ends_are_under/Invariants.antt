use Rattle.load_bounds.proofs.Prelude.{all_nodes}
use Rattle.load_bounds.proofs.TotalLemmas.{RowsUnder}
use Rattle.load_bounds.proofs.total_fit.ends_are_under.Given as goal

abbrev pub invariant-loop-i : goal.invariant-loop-i
invariant-loop-i l = RowsUnder l.p.given l.v.0 l.r (all_nodes l.p.given) l.x l.bound l.rows l.i
