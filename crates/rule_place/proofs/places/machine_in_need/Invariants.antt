use Rattle.rule_place.proofs.Prelude.{ℕ, ◌<◌, IsUnusable, seen, sure}
use Rattle.rule_place.proofs.places.machine_in_need.Given as goal

abbrev pub invariant-loop-i : goal.invariant-loop-i
invariant-loop-i l = (v : ℕ) → v < l.i → ¬ IsUnusable (sure l.p.given (seen l.view.region.now l.view.lens) l.t) v l.n.0
