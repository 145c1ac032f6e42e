use Rattle.rule_group.proofs.Prelude.{slice_index_or, ◌<◌, ℕ}
use Rattle.rule_group.specs.Prelude.{Act, FitsAt, groups_seen, no_row}
use Rattle.rule_group.proofs.together.rows_fit.Given as goal

abbrev pub invariant-loop-i : goal.invariant-loop-i
invariant-loop-i l = record {
  first : (j : ℕ) → j < l.i → FitsAt l.p.given l.always (groups_seen l.groups) l.common l.v.0 (Act (slice_index_or l.rows j no_row).place (slice_index_or l.rows j no_row).lo);
  last : (j : ℕ) → j < l.i → FitsAt l.p.given l.always (groups_seen l.groups) l.common l.v.0 (Act (slice_index_or l.rows j no_row).place (slice_index_or l.rows j no_row).hi);
}
