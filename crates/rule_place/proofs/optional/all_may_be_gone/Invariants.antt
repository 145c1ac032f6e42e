use Rattle.rule_place.proofs.Prelude.{ℕ, ◌<◌, LetsGo, sets}
use Rattle.rule_place.proofs.optional.all_may_be_gone.Given as goal

abbrev pub invariant-loop-i : goal.invariant-loop-i
invariant-loop-i l = (v : ℕ) → v < l.i → LetsGo l.p.given (sets l.g) v l.n.0 l.x
