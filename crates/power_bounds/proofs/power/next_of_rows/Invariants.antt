use Rattle.power_bounds.proofs.Prelude.{◌<◌, ◌≤◌}
use Rattle.power_bounds.proofs.power.next_of_rows.Given as goal

abbrev pub invariant-loop-row : goal.invariant-loop-row
invariant-loop-row l = record { later : l.after < l.next; less : l.next ≤ l.best }
