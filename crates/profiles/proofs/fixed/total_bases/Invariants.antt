use Rattle.profiles.proofs.Prelude.{AreTotalBases}
use Rattle.profiles.proofs.fixed.total_bases.Given as goal

abbrev pub invariant-loop-r : goal.invariant-loop-r
invariant-loop-r l = AreTotalBases l.p.given l.r l.bases.items
