use Rattle.placement_rules.proofs.Prelude.{◌≡◌, ℕ, ◌<◌, slice_index_or, IsTrue, has_node, NodeSet}
use Rattle.placement_rules.proofs.groups.is_inside_some.Given as goal

abbrev pub invariant-loop-group : goal.invariant-loop-group
invariant-loop-group l = (i : ℕ) (g : NodeSet) → i < l.group-index → slice_index_or l.groups i g ≡ g → ¬ ((n : ℕ) → n < l.fn.count → IsTrue (has_node l.set n) → IsTrue (has_node g n))
