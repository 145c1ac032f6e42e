-- What a problem is that groups of nodes split.
use Rattle.std.specs.Prelude.{◌≡◌, ℕ, List, length, map}
use Rattle.std.specs.List.{range_with_len}
use Rattle.cluster.specs.declared.sets.NodeSet.{NodeSet}
use Rattle.catalogue.specs.Prelude.{Instance, SoundInstance}
use Rattle.parts.specs.Laws.{Split}
use Rattle.parts.specs.Parts.{part_of}
use Rattle.partition.specs.Division.{Divides}
use Rattle.partition.specs.Numbering.{AreNumbers}

-- helping only: the group of each node and machine, and the number of each in its part
pub record SplitTables : Type 0 where
  pub nodes : List ℕ
  pub machines : List ℕ
  pub node_numbers : List ℕ
  pub machine_numbers : List ℕ

-- what contracts see of it: its parts, and its tables
pub record SplitView : Type 0 where
  pub parts : List SoundInstance
  pub tables : SplitTables

-- the groups split the problem, and these are its parts, one for each group, in order; the tables help only
pub record IsSplitBy (p : Instance) (groups : List NodeSet) (s : SplitView) : Type 0 where
  pub split : Split p groups
  pub parts : map (λ q. q.given) s.parts ≡ map (part_of p groups) (range_with_len 0 (length groups))
  pub divides : Divides p groups s.tables.nodes s.tables.machines
  pub numbers : AreNumbers p groups s.tables.node_numbers s.tables.machine_numbers
