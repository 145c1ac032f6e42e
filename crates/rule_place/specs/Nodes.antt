-- The watches of nodes that are needed.
use Rattle.std.specs.Prelude.{ℕ}
use Rattle.rule_constraint.specs.Prelude.{Instance, node_count, usable_watch, Watch}

-- a watch for each node: whether it is usable where it is needed
abbrev pub needed_watch : Instance → ℕ → Watch
needed_watch p n = usable_watch p n

abbrev pub needed_count : Instance → ℕ
needed_count p = node_count p
