use Rattle.branching.specs.Failures.{failures_of}
use Rattle.branching.proofs.FailureLemmas.{HasMostUpto}
use Rattle.branching.proofs.most_failures.MostFailures.most_failed.Given as goal

abbrev pub invariant-loop-x : goal.invariant-loop-x
invariant-loop-x l = HasMostUpto l.p.given (failures_of l.self) l.g l.x l.best
