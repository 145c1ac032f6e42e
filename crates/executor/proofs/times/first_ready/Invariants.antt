use Rattle.std.proofs.Common.{ℕ, ◌<◌}
use Rattle.executor.specs.Tables.{IsReadyAt}
use Rattle.executor.proofs.times.first_ready.Given as goal

abbrev pub invariant-loop-x : goal.invariant-loop-x
invariant-loop-x l = (y : ℕ) → y < l.x → ¬ IsReadyAt l.times l.phases y
