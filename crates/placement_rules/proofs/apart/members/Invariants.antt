use Rattle.placement_rules.proofs.Prelude.{◌≡◌, ℕ, take, has_machine, is_member}
use Rattle.placement_rules.proofs.apart.members.Given as goal

abbrev pub invariant-loop-v : goal.invariant-loop-v
invariant-loop-v l = (v : ℕ) → has_machine l.members v ≡ is_member (take l.v-index l.machines) v
