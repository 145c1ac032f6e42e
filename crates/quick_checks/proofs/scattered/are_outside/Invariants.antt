use Rattle.quick_checks.proofs.Prelude.{ℕ, ◌<◌, get_or, has_node, NodeSet, seen, sure}
use Rattle.reasons.specs.Prelude.{HasOutside}
use Rattle.quick_checks.proofs.scattered.are_outside.Given as goal

abbrev pub invariant-loop-group : goal.invariant-loop-group
invariant-loop-group l = (k : ℕ) (d : NodeSet) → k < l.group-index → HasOutside (sure l.p.given (seen l.view.region.now l.view.lens) l.t) l.machines (has_node (get_or l.groups k d))
