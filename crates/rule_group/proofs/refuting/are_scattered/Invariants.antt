use Rattle.rule_group.proofs.Prelude.{◌<◌, ℕ}
use Rattle.rule_group.specs.Prelude.{group_nodes, groups_seen, HasOutside, seen, sure}
use Rattle.rule_group.proofs.refuting.are_scattered.Given as goal

abbrev pub invariant-loop-i : goal.invariant-loop-i
invariant-loop-i l = (k : ℕ) → k < l.i → HasOutside (sure l.p.given (seen l.view.region.now l.view.lens) l.t) l.machines (group_nodes (groups_seen l.groups) k)
