use Rattle.rule_setload.specs.Prelude.{AreKept}
use Rattle.rule_setload.proofs.holders.holders_in.Given as goal

abbrev pub invariant-loop-i : goal.invariant-loop-i
invariant-loop-i l = AreKept l.p.given l.bound l.list.items
