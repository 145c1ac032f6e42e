use Rattle.profiles.proofs.Prelude.{AreMostUses}
use Rattle.profiles.proofs.fixed.most_uses.Given as goal

abbrev pub invariant-loop-r : goal.invariant-loop-r
invariant-loop-r l = AreMostUses l.p.given l.r l.most.items
