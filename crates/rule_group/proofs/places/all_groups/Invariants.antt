use Rattle.rule_group.proofs.Prelude.{IsTrue, ◌<◌, ℕ}
use Rattle.rule_group.specs.Prelude.{groups_seen, group_count, has_node}
use Rattle.rule_group.proofs.places.all_groups.Given as goal

abbrev pub invariant-loop-i : goal.invariant-loop-i
invariant-loop-i l = (j : ℕ) → IsTrue (has_node l.all j) → j < group_count l.p.given (groups_seen l.groups)
