-- Parts that split the choices of one element, and which of them branchers take.
use Rattle.std.specs.Prelude.{◌≡◌, ◌≢◌, ℕ, ◌+◌, ◌/◌, ◌<◌, ◌≤◌, true, false, List, [], filter, length, slice_index_or}
use Rattle.domains.specs.declared.parts.Part.{Part}
use Rattle.domains.specs.declared.parts.Part.TheVariants.{Idle, Upto}
use Rattle.domains.specs.declared.parts.Row.{Row}
use Rattle.domains.specs.Choices.{DomainView, choices, no_row}
use Rattle.domains.specs.Parts.{in_part, out_of_part}

-- there are two choices at least
abbrev pub IsOpen : DomainView → Type 0
IsOpen d = 2 ≤ length (choices d)

-- the part holds a choice, and leaves one out
pub record Splits (d : DomainView) (part : Part) : Type 0 where
  pub some_inside : filter (in_part part) (choices d) ≢ []
  pub some_outside : filter (out_of_part part) (choices d) ≢ []

abbrev pub row_of : List Row → ℕ → Row
row_of rows k = slice_index_or rows k no_row

-- of the rows the one of that number starts first, and no row before it starts as early
pub record StartsFirst (rows : List Row) (k : ℕ) : Type 0 where
  pub within : k < length rows
  pub least : (j : ℕ) → j < length rows → (row_of rows k).lo ≤ (row_of rows j).lo
  pub first : (j : ℕ) → j < k → (row_of rows k).lo < (row_of rows j).lo

-- the first start of a row, alone of its place
abbrev pub first_start : Row → Part
first_start r = Upto r.place r.lo

-- the starts of a row up to the middle
abbrev pub first_half : Row → Part
first_half r = Upto r.place ((r.lo + r.hi) / 2)

-- Idle where it is held, and else the first start of the row that starts first
pub record IsLeastStart (d : DomainView) (part : Part) : Type 0 where
  pub idle : d.idle ≡ true → part ≡ Idle
  pub acts : d.idle ≡ false → (k : ℕ) × StartsFirst d.rows k × (part ≡ first_start (row_of d.rows k))

-- Idle where it is held, and else the first half of the first row
pub record IsFirstFree (d : DomainView) (part : Part) : Type 0 where
  pub idle : d.idle ≡ true → part ≡ Idle
  pub acts : d.idle ≡ false → part ≡ first_half (row_of d.rows 0)
