use Rattle.rule_setload.proofs.Prelude.{◌⊎◌, ℕ, ◌<◌, ◌≤◌, length}
use Rattle.rule_setload.specs.Prelude.{has_node, sets}
use Rattle.rule_setload.proofs.FitLemmas.{RowFits}
use Rattle.rule_setload.proofs.fit.ends_fit.Given as goal

abbrev pub invariant-loop-i : goal.invariant-loop-i
invariant-loop-i l = (k : ℕ) → k < length l.rows → (k < l.i) ⊎ (l.i-end ≤ k) → RowFits l.p.given (sets l.g) l.bound.weight (has_node l.bound.nodes) l.x l.v.0 l.rows l.limit k
