use Rattle.rule_group.proofs.Prelude.{IsTrue, ℕ}
use Rattle.rule_group.specs.Prelude.{choices, groups_seen, has_node, IsFound}
use Rattle.rule_group.proofs.together.groups_of.Given as goal

abbrev pub invariant-loop-i : goal.invariant-loop-i
invariant-loop-i l = (j : ℕ) → IsTrue (has_node l.found j) → IsFound l.p.given (choices l.domain) l.always l.v.0 (groups_seen l.groups) l.among j
