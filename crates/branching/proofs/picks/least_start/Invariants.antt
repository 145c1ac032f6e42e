use Rattle.branching.specs.Elements.{IsUnfixed}
use Rattle.branching.proofs.picks.least_start.Given as goal

abbrev pub invariant-loop-x : goal.invariant-loop-x
invariant-loop-x l = IsUnfixed l.g l.best
