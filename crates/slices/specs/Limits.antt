-- How great the numbers of a plan may be.
use Rattle.std.specs.Prelude.{ℕ}

-- the longest action: the greatest base of a duration, and the greatest more for each unit of the greatest amount
abbrev pub max_action : ℕ
max_action = 1_000_000_001_000_000

-- the greatest load of a node: twice the greatest amount for each of the machines
abbrev pub max_load : ℕ
max_load = 8_192_000_000_000

-- the greatest cost: the greatest horizon for each of the elements
abbrev pub max_cost : ℕ
max_cost = 4_608_000_000

-- the most that a machine holds of a resource: twice the greatest amount
abbrev pub max_held : ℕ
max_held = 2_000_000_000
