use Rattle.judge.specs.Prelude.{AreMachines, choices_of, IsInSome, IsNext}
use Rattle.judge.proofs.next.next_in_parts.Given as goal

abbrev pub invariant-loop-i : goal.invariant-loop-i
invariant-loop-i l = IsNext (choices_of l.plan) (AreMachines (IsInSome l.parts l.i)) l.t l.next l.least
