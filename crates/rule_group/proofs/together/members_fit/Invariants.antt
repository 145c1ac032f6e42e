use Rattle.rule_group.proofs.Prelude.{get_or, ◌<◌, ℕ}
use Rattle.rule_group.specs.Prelude.{FitsMember, groups_seen, sets, VmId}
use Rattle.rule_group.proofs.together.members_fit.Given as goal

abbrev pub invariant-loop-i : goal.invariant-loop-i
invariant-loop-i l = (k : ℕ) (d : VmId) → k < l.i → FitsMember l.p.given (sets l.g) l.always (groups_seen l.groups) l.common (get_or l.machines k d).0
