-- Helping only: the number of each node and machine among those of its group.
use Rattle.std.specs.Prelude.{◌≡◌, ℕ, ◌==◌, List, length, map}
use Rattle.std.specs.List.{range_with_len}
use Rattle.cluster.specs.declared.sets.NodeSet.{NodeSet}
use Rattle.catalogue.specs.Prelude.{Instance}
use Rattle.slices.specs.Elements.{machine_count, node_count}
use Rattle.parts.specs.Groups.{in_group, machine_group}
use Rattle.parts.specs.Numbers.{new_number}
use Rattle.parts.specs.Parts.{in_part}
use Rattle.partition.specs.Division.{group_number}
use Rattle.partition.specs.Reach.{at}

-- how many before it have its group, by a table of groups
abbrev pub number_by : List ℕ → ℕ → ℕ
number_by table x = new_number (λ y. at table y == at table x) x

abbrev pub numbers_by : List ℕ → List ℕ
numbers_by table = map (number_by table) (range_with_len 0 (length table))

-- the number that a node has in its part, and a machine
abbrev pub node_number : List NodeSet → ℕ → ℕ
node_number groups n = new_number (in_group groups (group_number groups n)) n

abbrev pub machine_number : Instance → List NodeSet → ℕ → ℕ
machine_number p groups v = new_number (in_part p groups (machine_group p groups v)) v

-- two tables have them
pub record AreNumbers (p : Instance) (groups : List NodeSet) (nodes machines : List ℕ) : Type 0 where
  pub by_node : nodes ≡ map (node_number groups) (range_with_len 0 (node_count p))
  pub by_machine : machines ≡ map (machine_number p groups) (range_with_len 0 (machine_count p))
