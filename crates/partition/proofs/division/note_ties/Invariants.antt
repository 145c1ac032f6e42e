use Rattle.base.proofs.Public.{◌≡◌, ℕ, ◌<◌, None, length, get_or, option_or, take}
use Rattle.partition.specs.Division.{tied_by}
use Rattle.partition.proofs.division.note_ties.Given as goal

abbrev pub invariant-loop-constraint : goal.invariant-loop-constraint
invariant-loop-constraint l = (w : ℕ) → w < length l.ties → get_or l.ties w None ≡ option_or (get_or l.initial.ties w None) (tied_by l.nodes (take l.constraint-index l.constraints) w)
