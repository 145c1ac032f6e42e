use Rattle.judge.specs.Prelude.{choices_of, snapshot_at, StandsBelow}
use Rattle.judge.proofs.first.first_off.Given as goal

abbrev pub invariant-loop-i : goal.invariant-loop-i
invariant-loop-i l = StandsBelow (snapshot_at l.p.given (choices_of l.plan) l.t) l.fn.v.0 l.i
