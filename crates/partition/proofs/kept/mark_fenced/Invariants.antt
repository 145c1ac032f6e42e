use Rattle.base.proofs.Public.{◌≡◌, ℕ, ◌<◌, ◌||◌, false, length, get_or, take}
use Rattle.partition.specs.Division.{is_marked}
use Rattle.partition.specs.Reach.{at, fits}
use Rattle.partition.proofs.kept.mark_fenced.Given as goal

abbrev pub invariant-loop-v : goal.invariant-loop-v
invariant-loop-v l = (w : ℕ) → w < length l.kept → get_or l.kept w false ≡ (get_or l.initial.kept w false || is_marked (take l.v-index l.members) (λ v. fits l.reach (at l.machines v)) w)
