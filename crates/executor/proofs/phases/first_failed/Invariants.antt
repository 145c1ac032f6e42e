use Rattle.std.proofs.Common.{◌≡◌, ℕ, ◌<◌}
use Rattle.executor.specs.Prelude.{Failed, phase_at}
use Rattle.executor.proofs.phases.first_failed.Given as goal

abbrev pub invariant-loop-x : goal.invariant-loop-x
invariant-loop-x l = (y : ℕ) → y < l.x → ¬ (phase_at l.phases y ≡ Failed)
