use Rattle.std.specs.Prelude.{IfSome}
use Rattle.branching.specs.Elements.{IsUnfixed}
use Rattle.branching.proofs.picks.fewest_places.Given as goal

abbrev pub invariant-loop-k : goal.invariant-loop-k
invariant-loop-k l = IfSome l.best (IsUnfixed l.g)
