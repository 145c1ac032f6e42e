use Rattle.rule_setload.specs.Prelude.{has_node, sets}
use Rattle.rule_setload.proofs.AsideLemmas.{AreAside}
use Rattle.rule_setload.proofs.concerned.weighing.Given as goal

abbrev pub invariant-loop-i : goal.invariant-loop-i
invariant-loop-i l = AreAside l.p.given (sets l.g) l.bound.weight (has_node l.bound.nodes) l.i l.machines
