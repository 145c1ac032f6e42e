use Rattle.rule_pair.proofs.Prelude.{ℕ, ◌<◌, KeepsOff, sets}
use Rattle.rule_pair.specs.Prelude.{class_of, has_machine}
use Rattle.rule_pair.proofs.strangers.all_keep_off.Given as goal

abbrev pub invariant-loop-i : goal.invariant-loop-i
invariant-loop-i l = (w : ℕ) → w < l.i → KeepsOff l.p.given (sets l.g) l.table (class_of (has_machine l.members) w) l.from w
