use Rattle.placement_rules.specs.Prelude.{AreNoted, choices_of, snapshot_at}
use Rattle.placement_rules.proofs.LabelLemmas.{lonely_labels}
use Rattle.placement_rules.proofs.apart.is_lonely.Given as goal

abbrev pub invariant-loop-i : goal.invariant-loop-i
invariant-loop-i l =
    AreNoted (snapshot_at l.p.given (choices_of l.plan) l.t) (lonely_labels l.fn.machines l.i) l.table
