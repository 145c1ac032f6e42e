-- The watches of the rule of loads: the load of each node, and past them that of all nodes together.
use Rattle.std.specs.Prelude.{ℕ, Bool, true, false, nat_lt, if◌then◌else◌}
use Rattle.rule_load.specs.Words.{all_nodes, Instance, load_on, node_count, Nodes, one, Watch, ReasonKind, Empty, Bound, Load, Pair, Place, Group, SetLoad, Power, Usable, Hall}

-- the nodes whose load is watch i
abbrev pub nodes_at : Instance → ℕ → Nodes
nodes_at p i = if nat_lt i (node_count p) then one i else all_nodes p

abbrev pub watch_at : Instance → ℕ → Watch
watch_at p i = load_on p (nodes_at p i)

-- the kind of reasons that the rule covers
abbrev pub is_load : ReasonKind → Bool
is_load Empty = false
is_load Bound = false
is_load Load = true
is_load Pair = false
is_load Place = false
is_load Group = false
is_load SetLoad = false
is_load Power = false
is_load Usable = false
is_load Hall = false
