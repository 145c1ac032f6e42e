use Rattle.rule_pair.proofs.Prelude.{◌≡◌, ℕ, take}
use Rattle.rule_pair.specs.Prelude.{has_machine, is_member}
use Rattle.rule_pair.proofs.strangers.members.Given as goal

abbrev pub invariant-loop-v : goal.invariant-loop-v
invariant-loop-v l = (v : ℕ) → has_machine l.members v ≡ is_member (take l.v-index l.machines) v
