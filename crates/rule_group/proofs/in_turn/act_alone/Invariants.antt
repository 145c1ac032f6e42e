use Rattle.rule_group.proofs.Prelude.{get_or, ◌<◌, ◌≢◌, ℕ}
use Rattle.rule_group.specs.Prelude.{IsClearOf, IsMember, sets, VmId}
use Rattle.rule_group.proofs.in_turn.act_alone.Given as goal

abbrev pub invariant-loop-i : goal.invariant-loop-i
invariant-loop-i l = (k : ℕ) (d : VmId) → k < l.i → (w : ℕ) → IsMember l.machines w → w ≢ (get_or l.machines k d).0 → IsClearOf l.p.given (sets l.g) (get_or l.machines k d).0 w
