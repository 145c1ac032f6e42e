use Rattle.placement_rules.specs.Prelude.{AreNoted, choices_of, snapshot_at, split_labels}
use Rattle.placement_rules.proofs.apart.is_split.Given as goal

abbrev pub invariant-loop-i : goal.invariant-loop-i
invariant-loop-i l =
    AreNoted (snapshot_at l.p.given (choices_of l.plan) l.t) (split_labels l.parts l.i) l.table
