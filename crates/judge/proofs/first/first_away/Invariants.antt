use Rattle.judge.specs.Prelude.{AreUsable, choices_of, snapshot_at}
use Rattle.judge.proofs.first.first_away.Given as goal

abbrev pub invariant-loop-i : goal.invariant-loop-i
invariant-loop-i l = AreUsable l.p.given (snapshot_at l.p.given (choices_of l.plan) l.t) l.i
