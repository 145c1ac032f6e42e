use Rattle.rule_place.proofs.Prelude.{ℕ, ◌<◌, IsPlace, node_count, seen, sure}
use Rattle.rule_place.proofs.places.place_on.Given as goal

abbrev pub invariant-loop-i : goal.invariant-loop-i
invariant-loop-i l = (v : ℕ) → v < l.i → (n : ℕ) → n < node_count l.p.given → ¬ IsPlace l.p.given (sure l.p.given (seen l.view.region.now l.view.lens) l.t) l.constraint v n
