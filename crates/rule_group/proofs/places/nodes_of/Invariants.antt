use Rattle.rule_group.proofs.Prelude.{IsTrue, ℕ}
use Rattle.rule_group.specs.Prelude.{groups_seen, has_node, IsHad}
use Rattle.rule_group.proofs.places.nodes_of.Given as goal

abbrev pub invariant-loop-n : goal.invariant-loop-n
invariant-loop-n l = (m : ℕ) → IsTrue (has_node l.nodes m) → IsHad l.p.given (groups_seen l.groups) l.among m
