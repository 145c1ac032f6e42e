use Rattle.rule_setload.specs.Amounts.{AreAllStayers}
use Rattle.rule_setload.proofs.stayers.all_stayers.Given as goal

abbrev pub invariant-loop-c : goal.invariant-loop-c
invariant-loop-c l = AreAllStayers l.p.given l.c l.all.items
