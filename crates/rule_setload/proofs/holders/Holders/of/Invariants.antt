use Rattle.rule_setload.specs.Prelude.{AreAllHolders}
use Rattle.rule_setload.proofs.holders.Holders.of.Given as goal

abbrev pub invariant-loop-c : goal.invariant-loop-c
invariant-loop-c l = AreAllHolders l.p.given l.c l.all
