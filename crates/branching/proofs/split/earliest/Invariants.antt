use Rattle.branching.proofs.SplitLemmas.{StartsFirstUpto}
use Rattle.branching.proofs.split.earliest.Given as goal

abbrev pub invariant-loop-k : goal.invariant-loop-k
invariant-loop-k l = StartsFirstUpto l.rows l.k l.best
