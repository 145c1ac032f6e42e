-- How much a problem takes, and how great its numbers may be.
use Rattle.std.specs.Prelude.{ℕ}

-- at most so many constraints
abbrev pub max_constraints : ℕ
max_constraints = 4096

-- the greatest last instant
abbrev pub max_horizon : ℕ
max_horizon = 1000000

-- at most so many groups of an `among`, and parts of a `split`
abbrev pub max_groups : ℕ
max_groups = 512

abbrev pub max_parts : ℕ
max_parts = 4096

-- the greatest `num` and `den` of an `overbook`
abbrev pub max_scale : ℕ
max_scale = 1000

-- the greatest capacity: the greatest amount, so many times as an `overbook` may say
abbrev pub max_capacity : ℕ
max_capacity = 1000000000000
