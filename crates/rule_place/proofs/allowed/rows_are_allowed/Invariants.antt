use Rattle.rule_place.proofs.Prelude.{ℕ, ◌<◌, slice_index_or, MayGo, no_row}
use Rattle.rule_place.proofs.allowed.rows_are_allowed.Given as goal

abbrev pub invariant-loop-i : goal.invariant-loop-i
invariant-loop-i l = (k : ℕ) → k < l.i → MayGo l.p.given l.constraint l.v.0 (slice_index_or l.rows k no_row).place
