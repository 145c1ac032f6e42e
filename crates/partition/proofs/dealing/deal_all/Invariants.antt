use Rattle.base.proofs.Public.{◌≡◌, ℕ, ◌<◌, ◌++◌, length, take}
use Rattle.partition.specs.Cutting.{constraints_by, list_at}
use Rattle.partition.proofs.dealing.deal_all.Given as goal

abbrev pub invariant-loop-constraint : goal.invariant-loop-constraint
invariant-loop-constraint l = (j : ℕ) → j < length l.lists → list_at l.lists j ≡ list_at l.initial.lists j ++ constraints_by l.d l.numbers j (take l.constraint-index l.constraints)
