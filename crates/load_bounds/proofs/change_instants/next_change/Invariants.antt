use Rattle.std.proofs.Common.{◌+◌, ◌<◌, ◌≤◌}
use Rattle.load_bounds.proofs.change_instants.next_change.Given as goal

abbrev pub invariant-loop-i : goal.invariant-loop-i
invariant-loop-i l = record { later : l.after < l.next; most : l.next ≤ l.p.given.horizon + 1 }
