use Rattle.power_bounds.proofs.Prelude.{ℕ, ◌<◌, has_node, sets}
use Rattle.power_bounds.specs.Prelude.{IsPoweredFit}
use Rattle.power_bounds.proofs.power.nodes_fit.Given as goal

abbrev pub invariant-loop-i : goal.invariant-loop-i
invariant-loop-i l = (n : ℕ) → n < l.i → IsPoweredFit l.p.given (sets l.g) (has_node l.nodes) l.x n
