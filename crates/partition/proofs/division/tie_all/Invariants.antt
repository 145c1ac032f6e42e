use Rattle.base.proofs.Public.{◌≡◌, ℕ, ◌<◌, Some, None, length, get_or, if◌then◌else◌, option_or, take}
use Rattle.catalogue.specs.Prelude.{is_member}
use Rattle.partition.proofs.division.tie_all.Given as goal

abbrev pub invariant-loop-v : goal.invariant-loop-v
invariant-loop-v l = (w : ℕ) → w < length l.ties → get_or l.ties w None ≡ option_or (get_or l.initial.ties w None) (if is_member (take l.v-index l.machines) w then Some l.group else None)
