use Rattle.profiles.proofs.Prelude.{AreUses}
use Rattle.profiles.proofs.fixed.uses_of.Given as goal

abbrev pub invariant-loop-i : goal.invariant-loop-i
invariant-loop-i l = AreUses l.p.given l.r l.i l.order.items
