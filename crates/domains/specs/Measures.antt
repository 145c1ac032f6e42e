-- What the code says of least values.
use Rattle.std.specs.Prelude.{ℕ, Option, Some, None}
use Rattle.base.specs.Least.{lower}

-- the lower of two values, as far as they are there
abbrev pub lower_option : Option ℕ → Option ℕ → Option ℕ
lower_option None o = o
lower_option (Some a) o = Some (lower a o)
