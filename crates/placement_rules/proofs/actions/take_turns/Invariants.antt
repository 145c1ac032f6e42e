use Rattle.placement_rules.proofs.Prelude.{take, choices_of, snapshot_at}
use Rattle.placement_rules.proofs.Turns.{IsAlone}
use Rattle.placement_rules.proofs.actions.take_turns.Given as goal

abbrev pub invariant-loop-v : goal.invariant-loop-v
invariant-loop-v l = IsAlone (snapshot_at l.p.given (choices_of l.plan) l.t) (take l.v-index l.machines) l.acting
