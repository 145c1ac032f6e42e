use Rattle.placement_rules.proofs.Prelude.{take, AreReached, choices_of, snapshot_at}
use Rattle.placement_rules.proofs.groups.reached.Given as goal

abbrev pub invariant-loop-v : goal.invariant-loop-v
invariant-loop-v l = AreReached (snapshot_at l.p.given (choices_of l.plan) l.t) (take l.v-index l.machines) l.set
