use Rattle.base.proofs.Public.{◌≡◌, ℕ, ◌<◌, ◌++◌, length, take}
use Rattle.partition.specs.Cutting.{list_at, machines_by}
use Rattle.partition.proofs.sharing.deal_machines.Given as goal

abbrev pub invariant-loop-v : goal.invariant-loop-v
invariant-loop-v l = (j : ℕ) → j < length l.lists → list_at l.lists j ≡ list_at l.initial.lists j ++ machines_by l.groups l.numbers j (take l.v-index l.list)
