use Rattle.closing.proofs.Prelude.{ℕ, ◌<◌, IsOffLimits, places_seen}
use Rattle.closing.proofs.exact.places.forbids_any.Given as goal

abbrev pub invariant-loop-i : goal.invariant-loop-i
invariant-loop-i l = (n : ℕ) → n < l.i → ¬ IsOffLimits l.p.given (places_seen l.places) l.v.0 n
