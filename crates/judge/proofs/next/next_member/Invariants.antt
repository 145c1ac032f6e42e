use Rattle.std.proofs.Common.{take}
use Rattle.judge.specs.Prelude.{AreMachines, choices_of, IsMember, IsNext}
use Rattle.judge.proofs.next.next_member.Given as goal

abbrev pub invariant-loop-v : goal.invariant-loop-v
invariant-loop-v l = IsNext (choices_of l.plan) (AreMachines (IsMember (take l.v-index l.machines))) l.t l.next l.least
