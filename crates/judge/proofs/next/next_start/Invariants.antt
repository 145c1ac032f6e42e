use Rattle.std.proofs.Common.{◌+◌}
use Rattle.judge.specs.Prelude.{choices_of, IsNext}
use Rattle.judge.proofs.Starting.{AreNumbered}
use Rattle.judge.proofs.next.next_start.Given as goal

abbrev pub invariant-loop-x : goal.invariant-loop-x
invariant-loop-x l = IsNext (choices_of l.plan) (AreNumbered l.p.given l.x) l.t (l.p.given.horizon + 1) l.least
