use Rattle.std.proofs.Common.{◌<◌}
use Rattle.judge.specs.Prelude.{AreMachines, choices_of, IsNext}
use Rattle.judge.proofs.next.next_machine.Given as goal

abbrev pub invariant-loop-v : goal.invariant-loop-v
invariant-loop-v l = IsNext (choices_of l.plan) (AreMachines (λ v. v < l.v)) l.t l.next l.least
