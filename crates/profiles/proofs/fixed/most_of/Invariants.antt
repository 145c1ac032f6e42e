use Rattle.profiles.proofs.Prelude.{IsMostUse}
use Rattle.profiles.proofs.fixed.most_of.Given as goal

abbrev pub invariant-loop-i : goal.invariant-loop-i
invariant-loop-i l = IsMostUse l.p.given l.r l.i l.most
