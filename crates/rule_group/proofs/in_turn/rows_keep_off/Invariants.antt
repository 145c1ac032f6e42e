use Rattle.rule_group.proofs.Prelude.{slice_index_or, ◌<◌, ℕ}
use Rattle.rule_group.specs.Prelude.{Act, AvoidsSpan, no_row}
use Rattle.rule_group.proofs.in_turn.rows_keep_off.Given as goal

abbrev pub invariant-loop-i : goal.invariant-loop-i
invariant-loop-i l = record {
  first : (j : ℕ) → j < l.i → AvoidsSpan l.p.given l.w.0 l.span (Act (slice_index_or l.rows j no_row).place (slice_index_or l.rows j no_row).lo);
  last : (j : ℕ) → j < l.i → AvoidsSpan l.p.given l.w.0 l.span (Act (slice_index_or l.rows j no_row).place (slice_index_or l.rows j no_row).hi);
}
