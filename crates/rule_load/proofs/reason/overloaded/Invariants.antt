use Rattle.rule_load.proofs.Prelude.{ℕ, ◌<◌, has_node, IsOverload, seen, sure}
use Rattle.rule_load.proofs.reason.overloaded.Given as goal

abbrev pub invariant-loop-r : goal.invariant-loop-r
invariant-loop-r l = (r : ℕ) → r < l.r → ¬ IsOverload l.p.given (sure l.p.given (seen l.view.region.now l.view.lens) l.t) r (has_node l.set)
