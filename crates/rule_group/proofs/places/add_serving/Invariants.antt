use Rattle.rule_group.proofs.Prelude.{IsTrue, ◌⊎◌, ℕ}
use Rattle.rule_group.specs.Prelude.{groups_seen, has_node, IsServed}
use Rattle.rule_group.proofs.places.add_serving.Given as goal

abbrev pub invariant-loop-i : goal.invariant-loop-i
invariant-loop-i l = (j : ℕ) → IsTrue (has_node l.found j) → IsTrue (has_node l.fn.found j) ⊎ IsServed l.p.given (groups_seen l.groups) l.among l.spots j
