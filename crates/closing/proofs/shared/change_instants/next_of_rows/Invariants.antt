use Rattle.closing.proofs.Prelude.{◌<◌, ◌≤◌, AreRowsPast}
use Rattle.closing.proofs.shared.change_instants.next_of_rows.Given as goal

abbrev pub invariant-loop-i : goal.invariant-loop-i
invariant-loop-i l = record { later : l.after < l.next; less : l.next ≤ l.best; past : AreRowsPast l.after l.next l.i l.rows }
