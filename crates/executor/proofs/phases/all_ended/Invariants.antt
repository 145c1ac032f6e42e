use Rattle.std.proofs.Common.{◌≡◌, ◌⊎◌, ℕ, ◌<◌}
use Rattle.executor.specs.Prelude.{Ended, None as NoAction, phase_at}
use Rattle.executor.proofs.phases.all_ended.Given as goal

abbrev pub invariant-loop-x : goal.invariant-loop-x
invariant-loop-x l = (y : ℕ) → y < l.x → (phase_at l.phases y ≡ NoAction) ⊎ (phase_at l.phases y ≡ Ended)
