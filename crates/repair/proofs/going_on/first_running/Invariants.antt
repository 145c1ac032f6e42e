use Rattle.std.proofs.Common.{◌≢◌, ℕ, ◌<◌}
use Rattle.executor.specs.declared.phase.Phase.TheVariants.{Running}
use Rattle.repair.specs.Prelude.{element_at, inventory_of, phases_of}
use Rattle.repair.proofs.going_on.first_running.Given as goal

abbrev pub invariant-loop-x : goal.invariant-loop-x
invariant-loop-x l = (y : ℕ) → y < l.x → phases_of l.m (element_at (inventory_of l.p.given) y) ≢ Running
