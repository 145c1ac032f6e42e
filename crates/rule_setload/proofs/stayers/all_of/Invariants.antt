use Rattle.rule_setload.specs.Prelude.{AreStayersTo, has_node}
use Rattle.rule_setload.proofs.stayers.all_of.Given as goal

abbrev pub invariant-loop-i : goal.invariant-loop-i
invariant-loop-i l = AreStayersTo l.p.given l.bound.weight (has_node l.bound.nodes) l.i l.x
