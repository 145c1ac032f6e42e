use Rattle.rule_group.proofs.Prelude.{get_or, IsTrue, ◌<◌, ℕ}
use Rattle.rule_group.specs.Prelude.{group_count, groups_seen, group_nodes, has_node, MayBeIn, sets, vm, VmId}
use Rattle.rule_group.proofs.together.common_groups.Given as goal

abbrev pub invariant-loop-i : goal.invariant-loop-i
invariant-loop-i l = record {
  count : (j : ℕ) → IsTrue (has_node l.common j) → j < group_count l.p.given (groups_seen l.groups);
  each : (j : ℕ) → IsTrue (has_node l.common j) → (k : ℕ) (d : VmId) → k < l.i → MayBeIn l.p.given (sets l.g (vm (get_or l.machines k d).0)) l.always (get_or l.machines k d).0 (group_nodes (groups_seen l.groups) j);
}
