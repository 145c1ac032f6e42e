use Rattle.rule_pair.proofs.Prelude.{ℕ, ◌<◌, get_or, KeepsOff, sets, VmId}
use Rattle.rule_pair.proofs.clear.part_keeps_off.Given as goal

abbrev pub invariant-loop-i : goal.invariant-loop-i
invariant-loop-i l = (k : ℕ) (d : VmId) → k < l.i → KeepsOff l.p.given (sets l.g) l.table l.part l.from (get_or l.machines k d).0
