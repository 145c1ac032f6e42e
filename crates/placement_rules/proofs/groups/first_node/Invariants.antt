use Rattle.placement_rules.proofs.Prelude.{◌≡◌, ℕ, ◌<◌, false, has_node}
use Rattle.placement_rules.proofs.groups.first_node.Given as goal

abbrev pub invariant-loop-i : goal.invariant-loop-i
invariant-loop-i l = (n : ℕ) → n < l.i → has_node l.set n ≡ false
