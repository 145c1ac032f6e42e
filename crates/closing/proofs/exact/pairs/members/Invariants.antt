use Rattle.closing.proofs.Prelude.{◌≡◌, ℕ, take, has_machine, is_member}
use Rattle.closing.proofs.exact.pairs.members.Given as goal

abbrev pub invariant-loop-v : goal.invariant-loop-v
invariant-loop-v l = (v : ℕ) → has_machine l.members v ≡ is_member (take l.v-index l.machines) v
