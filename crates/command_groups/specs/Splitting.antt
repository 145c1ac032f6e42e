-- Whether groups that are read split a problem.
use Rattle.std.specs.Prelude.{◌++◌, ℕ, List, Option, Some, None, Result, Ok, Err, codes}
use Rattle.std.specs.Fmt.{decimal}
use Rattle.plan_io.specs.Files.{Files}
use Rattle.cluster.specs.declared.ids.Element.TheVariants.{Vm, Node}
use Rattle.cluster.specs.declared.sets.NodeSet.{NodeSet}
use Rattle.catalogue.specs.Prelude.{Instance, inventory_of, name_of}
use Rattle.partition.specs.Prelude.{split_fault, SplitFault}
use Rattle.command_groups.specs.Groups.{groups_in, groups_line}

-- Why groups do not split a problem, in words.
unfoldable pub fault_said : Instance → SplitFault → List ℕ
fault_said p (SplitFault.Uncovered n) = codes "node " ++ name_of (inventory_of p) (Node n) ++ codes " uncovered"
fault_said p (SplitFault.Free v) = codes "machine " ++ name_of (inventory_of p) (Vm v) ++ codes " free"
fault_said p (SplitFault.Spans c) = codes "constraint " ++ decimal c ++ codes " spans"
fault_said p SplitFault.Memory = codes "out of memory"

-- The groups, where they have no fault, or the line of their first one.
abbrev pub faultless : Instance → List NodeSet → Option SplitFault → Result (List NodeSet) (List ℕ)
faultless p groups None = Ok groups
faultless p groups (Some f) = Err (groups_line (fault_said p f))

-- The groups, where they split the problem, or the line that says why they do not.
abbrev pub split_by : Instance → List NodeSet → Result (List NodeSet) (List ℕ)
split_by p groups = faultless p groups (split_fault p groups)

-- The same by a reading of groups.
abbrev pub split_reading_of : Instance → Result (List NodeSet) (List ℕ) → Result (List NodeSet) (List ℕ)
split_reading_of p (Ok groups) = split_by p groups
split_reading_of p (Err line) = Err line

-- The groups in the file of this name, which split the problem, or the line that refuses them.
abbrev pub split_in : Instance → Files → (name : List ℕ) → Result (List NodeSet) (List ℕ)
split_in p files name = split_reading_of p (groups_in p files name)
