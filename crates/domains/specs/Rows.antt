-- What the code says of one row, and of where a row stands.
use Rattle.std.specs.Prelude.{◌≡◌, ℕ, ◌<◌, ◌≤◌, Bool, ◌&&◌, nat_le, List, [], length, Option, Some, None, slice_index_or}
use Rattle.cluster.specs.declared.choices.Place.{Place}
use Rattle.cluster.specs.declared.choices.Choice.{Choice}
use Rattle.cluster.specs.declared.choices.Choice.TheVariants.{Idle as Stay, Act}
use Rattle.domains.specs.declared.parts.Row.{Row}
use Rattle.domains.specs.declared.parts.Part.{Part}
use Rattle.domains.specs.declared.parts.Part.TheVariants.{Idle, Upto, From}
use Rattle.domains.specs.Choices.{place_index, row_choices}

-- the choices of a row, if there is one
abbrev pub option_choices : Option Row → List Choice
option_choices None = []
option_choices (Some r) = row_choices r

-- the row of one choice; Idle has none
abbrev pub row_of : Choice → Option Row
row_of Stay = None
row_of (Act place start) = Some (record { place = place; lo = start; hi = start })

-- a row at a place, which is not empty
pub record IsRowAt (place : Place) (r : Row) : Type 0 where
  pub at : r.place ≡ place
  pub holds_one : r.lo ≤ r.hi

-- of the row, the test keeps the starts from one instant to another
pub record KeepsBetween (test : Choice → Bool) (r : Row) (from to : ℕ) : Type 0 where
  pub keeps : (s : ℕ) → r.lo ≤ s → s ≤ r.hi → test (Act r.place s) ≡ (nat_le from s && nat_le s to)

-- the row at a place of the list is the one of that index
pub record IsFound (rows : List Row) (key i : ℕ) : Type 0 where
  pub within : i < length rows
  pub same : (d : Row) → place_index (slice_index_or rows i d).place ≡ key

-- rows before a place of the list have a lower index, all from there on a greater one
pub record IsGap (rows : List Row) (key i : ℕ) : Type 0 where
  pub within : i ≤ length rows
  pub below : (k : ℕ) (d : Row) → k < i → place_index (slice_index_or rows k d).place < key
  pub above : (k : ℕ) (d : Row) → i ≤ k → k < length rows → key < place_index (slice_index_or rows k d).place

-- every choice of the part is at the place
abbrev pub IsPartAt : Place → Part → Type 0
IsPartAt place Idle = ⊥
IsPartAt place (Upto p s) = place_index p ≡ place_index place
IsPartAt place (From p s) = place_index p ≡ place_index place
