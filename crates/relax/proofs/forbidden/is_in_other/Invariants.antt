use Rattle.relax.proofs.Prelude.{◌≢◌, ℕ, ◌<◌, IsInPart}
use Rattle.relax.proofs.forbidden.is_in_other.Given as goal

abbrev pub invariant-loop-j : goal.invariant-loop-j
invariant-loop-j l = (k : ℕ) → k < l.j → l.fn.i ≢ k → ¬ IsInPart l.parts k l.fn.w.0
