use Rattle.relax.proofs.Prelude.{◌≢◌, ℕ, ◌<◌, IsInPart}
use Rattle.relax.proofs.forbidden.are_in_two.Given as goal

abbrev pub invariant-loop-i : goal.invariant-loop-i
invariant-loop-i l = (k : ℕ) → k < l.i → (j : ℕ) → k ≢ j → IsInPart l.parts k l.fn.v.0 → ¬ IsInPart l.parts j l.fn.w.0
