use Rattle.rule_load.proofs.Prelude.{◌≡◌, ℕ, nat_lt, has_node}
use Rattle.rule_load.proofs.nodes.all_of.Given as goal

abbrev pub invariant-loop-n : goal.invariant-loop-n
invariant-loop-n l = (m : ℕ) → has_node l.set m ≡ nat_lt m l.n
