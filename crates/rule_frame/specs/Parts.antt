-- Helping only: the starts of a row from an end of it on.
use Rattle.std.specs.Prelude.{ℕ, ◌+◌, ◌-◌, Bool, true, false}
use Rattle.rule_frame.specs.Words.{Part, From, Upto, Row}

-- the start that stands so far past an end of a row: past its first start, or before its last
abbrev pub start_past : Row → Bool → ℕ → ℕ
start_past row true far = row.lo + far
start_past row false far = row.hi - far

-- the starts from that end to it
abbrev pub part_past : Row → Bool → ℕ → Part
part_past row true far = Upto row.place (row.lo + far)
part_past row false far = From row.place (row.hi - far)
