use Rattle.judge.specs.Prelude.{choices_of, ConstraintsHold}
use Rattle.judge.proofs.first.first_unmet.Given as goal

abbrev pub invariant-loop-i : goal.invariant-loop-i
invariant-loop-i l = ConstraintsHold l.p.given (choices_of l.plan) l.t l.i
