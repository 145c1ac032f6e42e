-- What a cut takes from a domain, and what puts it back.
use Rattle.std.specs.Prelude.{◌≤◌, true, List, [], ◌∷◌, length, nat_lt, Option, Some, None, if◌then◌else◌}
use Rattle.domains.specs.declared.parts.Row.{Row}
use Rattle.cluster.specs.declared.choices.Choice.{Choice}
use Rattle.cluster.specs.declared.choices.Choice.TheVariants.{Idle as Stay}
use Rattle.domains.specs.declared.undo.Before.{Before}
use Rattle.domains.specs.declared.undo.Before.TheVariants.{Kept, Lost as WithLost}
use Rattle.domains.specs.declared.undo.Lost.{Lost}
use Rattle.domains.specs.declared.undo.Lost.TheVariants.{Nothing, Idle, Row as LostRow}
use Rattle.domains.specs.Choices.{DomainView, place_index, row_choices, same_place}

-- rows with one at its place, which stands for any that was there
abbrev pub put_row : Row → List Row → List Row
put_row r [] = r ∷ []
put_row r (q ∷ qs) =
    if same_place q.place r.place then r ∷ qs else (if nat_lt (place_index q.place) (place_index r.place) then q ∷ put_row r qs else r ∷ q ∷ qs)

-- the domain with what it has lost
abbrev pub restored : Lost → DomainView → DomainView
restored Nothing d = d
restored Idle d = record { idle = true; rows = d.rows; slots = d.slots }
restored (LostRow r) d = record { idle = d.idle; rows = put_row r d.rows; slots = d.slots }

-- the domain before a change, told by one that was kept and the domain now
abbrev pub domain_before : Before → DomainView → DomainView → DomainView
domain_before Kept kept now = kept
domain_before (WithLost lost) kept now = restored lost now

-- the choices of what was lost
abbrev pub lost_choices : Lost → List Choice
lost_choices Nothing = []
lost_choices Idle = Stay ∷ []
lost_choices (LostRow r) = row_choices r

-- it can be put back without memory
abbrev pub CanRestore : Lost → DomainView → Type 0
CanRestore Nothing d = Unit {0}
CanRestore Idle d = Unit {0}
CanRestore (LostRow r) d = (r.lo ≤ r.hi) × (length (put_row r d.rows) ≤ d.slots)

-- rows with one put back, if there is one
abbrev pub put_back : Option Row → List Row → List Row
put_back None rows = rows
put_back (Some r) rows = put_row r rows
