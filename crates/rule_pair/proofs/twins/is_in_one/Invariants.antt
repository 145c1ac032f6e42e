use Rattle.rule_pair.proofs.Prelude.{◌≡◌, ℕ, ◌<◌, IsInPart}
use Rattle.rule_pair.proofs.twins.is_in_one.Given as goal

abbrev pub invariant-loop-j : goal.invariant-loop-j
invariant-loop-j l = (k : ℕ) → k < l.j → IsInPart l.parts k l.v.0 → k ≡ l.i
