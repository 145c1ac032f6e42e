use Rattle.rule_constraint.proofs.Prelude.{◌≡◌, ℕ, ◌<◌, slice_index_or, IsPut, VmId}
use Rattle.rule_constraint.proofs.index.put_machines.Given as goal

abbrev pub invariant-loop-v : goal.invariant-loop-v
invariant-loop-v l = IsPut (λ v. (k : ℕ) × (k < l.v-index) × ((d : VmId) → (slice_index_or l.machines k d).0 ≡ v)) l.c l.fn.lists l.lists
