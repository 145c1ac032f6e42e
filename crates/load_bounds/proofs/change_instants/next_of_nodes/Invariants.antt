use Rattle.std.proofs.Common.{◌<◌, ◌≤◌}
use Rattle.load_bounds.proofs.change_instants.next_of_nodes.Given as goal

abbrev pub invariant-loop-i : goal.invariant-loop-i
invariant-loop-i l = record { later : l.after < l.next; less : l.next ≤ l.best }
