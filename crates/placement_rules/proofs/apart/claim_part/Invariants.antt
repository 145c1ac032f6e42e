use Rattle.placement_rules.specs.Prelude.{AreNoted, choices_of, snapshot_at}
use Rattle.placement_rules.proofs.LabelLemmas.{part_labels}
use Rattle.placement_rules.proofs.apart.claim_part.Given as goal

abbrev pub invariant-loop-v : goal.invariant-loop-v
invariant-loop-v l =
    AreNoted (snapshot_at l.p.given (choices_of l.plan) l.t) (part_labels l.parts l.i l.v-items l.v-index) l.table
