use Rattle.rule_setload.proofs.Prelude.{ℕ, ◌<◌}
use Rattle.rule_setload.specs.Prelude.{has_node, IsFit, sets}
use Rattle.rule_setload.proofs.fit.machines_fit.Given as goal

abbrev pub invariant-loop-i : goal.invariant-loop-i
invariant-loop-i l = (v : ℕ) → v < l.i → IsFit l.p.given (sets l.g) l.bound.weight (has_node l.bound.nodes) v l.x l.spare
