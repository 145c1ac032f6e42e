use Rattle.std.proofs.Common.{◌<◌, ◌≤◌}
use Rattle.load_bounds.proofs.change_instants.next_of_rows.Given as goal

abbrev pub invariant-loop-row : goal.invariant-loop-row
invariant-loop-row l = record { later : l.after < l.next; less : l.next ≤ l.best }
