use Rattle.rule_pair.proofs.Prelude.{slice_index_or, ℕ, ◌<◌, ◌≤◌, IsLate, no_row}
use Rattle.rule_pair.specs.Prelude.{place_index}
use Rattle.rule_pair.proofs.reach.rows_met_from.Given as goal

abbrev pub invariant-loop-i : goal.invariant-loop-i
invariant-loop-i l = (k : ℕ) → k < l.i → l.number ≤ place_index (slice_index_or l.rows k no_row).place → IsLate l.table l.part l.from (slice_index_or l.rows k no_row).place (slice_index_or l.rows k no_row).lo
