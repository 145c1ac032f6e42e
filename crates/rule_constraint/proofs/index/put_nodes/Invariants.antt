use Rattle.rule_constraint.proofs.Prelude.{◌<◌, IsTrue, has_node, IsPut}
use Rattle.rule_constraint.proofs.index.put_nodes.Given as goal

abbrev pub invariant-loop-n : goal.invariant-loop-n
invariant-loop-n l = IsPut (λ n. (n < l.n) × IsTrue (has_node l.nodes n)) l.c l.fn.lists l.lists
