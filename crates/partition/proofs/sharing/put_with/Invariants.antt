use Rattle.base.proofs.Public.{◌≡◌, ℕ, ◌<◌, ◌++◌, ◌∷◌, [], get_or, length, nat_lt, if◌then◌else◌}
use Rattle.catalogue.specs.Prelude.{no_nodes}
use Rattle.partition.specs.Cutting.{list_at, with_lists}
use Rattle.partition.proofs.sharing.put_with.Given as goal

abbrev pub invariant-loop-i : goal.invariant-loop-i
invariant-loop-i l = (j : ℕ) → j < length l.lists → list_at l.lists j ≡ list_at l.initial.lists j ++ (if nat_lt j l.i then with_lists (λ _. list_at l.machines j) (λ _. get_or l.sets j no_nodes) (λ v. v) l.constraint ∷ [] else [])
