use Rattle.rule_pair.proofs.Prelude.{ℕ, ◌<◌, IsInPart, KeepsOff, sets}
use Rattle.rule_pair.proofs.clear.parts_keep_off.Given as goal

abbrev pub invariant-loop-j : goal.invariant-loop-j
invariant-loop-j l = (k w : ℕ) → k < l.j → IsInPart l.parts k w → KeepsOff l.p.given (sets l.g) l.table k l.from w
