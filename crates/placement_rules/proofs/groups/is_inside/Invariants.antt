use Rattle.placement_rules.proofs.Prelude.{ℕ, ◌<◌, IsTrue, has_node}
use Rattle.placement_rules.proofs.groups.is_inside.Given as goal

abbrev pub invariant-loop-i : goal.invariant-loop-i
invariant-loop-i l = (n : ℕ) → n < l.i → IsTrue (has_node l.set n) → IsTrue (has_node l.other n)
