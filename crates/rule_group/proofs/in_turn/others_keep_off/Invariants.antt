use Rattle.rule_group.proofs.Prelude.{get_or, ◌<◌, ◌≢◌, ℕ}
use Rattle.rule_group.specs.Prelude.{KeepsOff, sets, VmId}
use Rattle.rule_group.proofs.in_turn.others_keep_off.Given as goal

abbrev pub invariant-loop-i : goal.invariant-loop-i
invariant-loop-i l = (k : ℕ) (d : VmId) → k < l.i → (get_or l.machines k d).0 ≢ l.v.0 → KeepsOff l.p.given (sets l.g) (get_or l.machines k d).0 l.span
