use Rattle.rule_pair.proofs.Prelude.{ℕ, ◌<◌, IsInPart}
use Rattle.rule_pair.proofs.pairs.have.Given as goal

abbrev pub invariant-loop-i : goal.invariant-loop-i
invariant-loop-i l = (k : ℕ) → k < l.i → ¬ IsInPart l.parts k l.v.0
