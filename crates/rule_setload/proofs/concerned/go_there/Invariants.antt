use Rattle.rule_setload.proofs.Prelude.{◌≡◌, ◌⊎◌, ℕ, ◌<◌, ◌≤◌, false, length, slice_index_or}
use Rattle.rule_setload.specs.Prelude.{Act, goes_in, has_node, no_row}
use Rattle.rule_setload.proofs.concerned.go_there.Given as goal

abbrev pub invariant-loop-i : goal.invariant-loop-i
invariant-loop-i l = (k : ℕ) → k < length l.rows → (k < l.i) ⊎ (l.i-end ≤ k) → goes_in (Act (slice_index_or l.rows k no_row).place 0) (has_node l.nodes) ≡ false
