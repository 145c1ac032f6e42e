-- A row that may be there.
use Rattle.std.specs.Prelude.{List, [], ◌∷◌, Option, Some, None}
use Rattle.domains.specs.declared.parts.Row.{Row}

-- the row, if there is one, as a list
abbrev pub rows_of : Option Row → List Row
rows_of None = []
rows_of (Some r) = r ∷ []
