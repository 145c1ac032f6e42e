use Rattle.std.proofs.Common.{length}
use Rattle.explain.specs.Prelude.{IsShrunk}
use Rattle.explain.proofs.explaining.shrink.Given as goal

abbrev pub decreases-loop-costs : goal.decreases-loop-costs
decreases-loop-costs g l = length l.kept.items

abbrev pub invariant-loop-costs : goal.invariant-loop-costs
invariant-loop-costs g l = IsShrunk l.p.given l.budget l.kept.items l.shown.items l.costs.items
