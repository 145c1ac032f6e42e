use Rattle.power_bounds.proofs.Prelude.{◌+◌, ◌<◌, ◌≤◌}
use Rattle.power_bounds.proofs.power.next_change.Given as goal

abbrev pub invariant-loop-i : goal.invariant-loop-i
invariant-loop-i l = record { later : l.after < l.next; most : l.next ≤ l.p.given.horizon + 1 }
