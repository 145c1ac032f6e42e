use Rattle.std.proofs.Common.{◌-◌, length}
use Rattle.explain.specs.Prelude.{AreNeeded}
use Rattle.explain.proofs.trials.first_lost.Given as goal

abbrev pub decreases-loop-alloc : goal.decreases-loop-alloc
decreases-loop-alloc g l = length l.kept - length l.costs.items

abbrev pub invariant-loop-alloc : goal.invariant-loop-alloc
invariant-loop-alloc g l = AreNeeded l.p.given l.kept l.costs.items
