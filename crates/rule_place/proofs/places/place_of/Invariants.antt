use Rattle.rule_place.proofs.Prelude.{ℕ, ◌<◌, IsPlace, seen, sure}
use Rattle.rule_place.proofs.places.place_of.Given as goal

abbrev pub invariant-loop-i : goal.invariant-loop-i
invariant-loop-i l = (n : ℕ) → n < l.i → ¬ IsPlace l.p.given (sure l.p.given (seen l.view.region.now l.view.lens) l.t) l.constraint l.v.0 n
