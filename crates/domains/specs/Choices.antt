-- The choices that one element may still take: Idle or not, and at each place at most one row of starts.
use Rattle.std.specs.Prelude.{ℕ, zero, suc, ◌+◌, ◌-◌, ◌<◌, ◌≤◌, ◌==◌, Bool, true, List, [], ◌∷◌, ◌++◌, length, if◌then◌else◌}
use Rattle.std.specs.List.{flat_map, All}
use Rattle.cluster.specs.declared.choices.Place.{Place}
use Rattle.cluster.specs.declared.choices.Place.TheVariants.{Nowhere, At}
use Rattle.cluster.specs.declared.choices.Choice.{Choice}
use Rattle.cluster.specs.declared.choices.Choice.TheVariants.{Idle, Act}
use Rattle.domains.specs.declared.parts.Row.{Row}

-- what a contract sees of a `Domain`. How many rows it has slots for is no part of what it means: so many
-- it takes without memory
pub record DomainView : Type 0 where
  pub idle : Bool
  pub rows : List Row
  pub slots : ℕ

-- places in their order, `Nowhere` first
abbrev pub place_index : Place → ℕ
place_index Nowhere = 0
place_index (At n) = n.0 + 1

abbrev pub same_place : Place → Place → Bool
same_place p q = place_index p == place_index q

-- so many starts at one place, from an instant on
abbrev pub starts_from : Place → ℕ → ℕ → List Choice
starts_from place from zero = []
starts_from place from (suc count) = Act place from ∷ starts_from place (from + 1) count

-- the choices of a row: each start from lo to hi
abbrev pub row_choices : Row → List Choice
row_choices r = starts_from r.place r.lo (r.hi + 1 - r.lo)

-- what a list of rows is read as past its end
abbrev pub no_row : Row
no_row = record { place = Nowhere; lo = 0; hi = 0 }

-- the set of choices that a domain is
abbrev pub choices : DomainView → List Choice
choices d = (if d.idle then Idle ∷ [] else []) ++ flat_map row_choices d.rows

-- there is exactly one choice
abbrev pub is_one : DomainView → Bool
is_one d = length (choices d) == 1

-- places climb, from an index on, and no row is empty
abbrev pub Climbs : ℕ → List Row → Type 0
Climbs from [] = Unit {0}
Climbs from (r ∷ rs) = (from ≤ place_index r.place) × (r.lo ≤ r.hi) × Climbs (place_index r.place + 1) rs

-- a place comes after all that the rows are at
abbrev pub ComesAfter : Place → List Row → Type 0
ComesAfter place rows = All (λ r. place_index r.place < place_index place) rows

-- an element that can only stay as it is
abbrev pub staying : DomainView
staying = record { idle = true; rows = []; slots = 0 }
