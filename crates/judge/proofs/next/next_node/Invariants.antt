use Rattle.std.proofs.Common.{◌<◌, IsTrue}
use Rattle.judge.specs.Prelude.{AreNodes, choices_of, has_node, IsNext}
use Rattle.judge.proofs.next.next_node.Given as goal

abbrev pub invariant-loop-i : goal.invariant-loop-i
invariant-loop-i l = IsNext (choices_of l.plan) (AreNodes (λ n. (n < l.i) × IsTrue (has_node l.nodes n))) l.t l.next l.least
