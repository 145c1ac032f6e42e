use Rattle.quick_checks.proofs.Prelude.{◌≤◌, length}
use Rattle.std.proofs.Common.{◌-◌}
use Rattle.quick_checks.proofs.members.place_in.Given as goal

abbrev pub invariant-loop-low : goal.invariant-loop-low
invariant-loop-low l = l.high ≤ length l.machines

abbrev pub decreases-loop-low : goal.decreases-loop-low
decreases-loop-low l = l.high - l.low
