use Rattle.placement_rules.specs.Prelude.{AreNoted, choices_of, snapshot_at}
use Rattle.placement_rules.proofs.LabelLemmas.{spread_labels}
use Rattle.placement_rules.proofs.apart.is_spread.Given as goal

abbrev pub invariant-loop-v : goal.invariant-loop-v
invariant-loop-v l =
    AreNoted (snapshot_at l.p.given (choices_of l.plan) l.t) (spread_labels l.machines l.v-index) l.table
