-- The walk of groups: what a test gives, or the first fault.
use Rattle.std.specs.Prelude.{Option, Some, None, Result}
use Rattle.json_walk.specs.declared.fault.WalkFault.{WalkFault}
use Rattle.json_walk.specs.declared.fault.WalkFault.TheVariants as walk_faults
use Rattle.json_walk.specs.declared.fault.WalkFault.TheVariants.{Bad}
use Rattle.json_walk.specs.Members as members
use Rattle.partition.specs.declared.groups_fault.GroupsFault.{GroupsFault}
use Rattle.partition.specs.declared.groups_fault.GroupsFault.TheVariants.{TooLong, NotJson, Field, NoSuch, Twice, Limit, Memory}

-- a value, or the first fault
abbrev pub Walk : Type 0 → Type 0
Walk A = Result A GroupsFault

-- a test of one value at its path
abbrev pub Test : Type 0 → Type 0
Test A = members.Test GroupsFault A

-- the fault that an error names; want of memory names none
abbrev pub groups_fault_of : GroupsFault → Option GroupsFault
groups_fault_of TooLong = Some TooLong
groups_fault_of NotJson = Some NotJson
groups_fault_of (Field f) = Some (Field f)
groups_fault_of (NoSuch p) = Some (NoSuch p)
groups_fault_of (Twice p) = Some (Twice p)
groups_fault_of (Limit p) = Some (Limit p)
groups_fault_of Memory = None

-- the fault of one value, as a fault of the groups
abbrev pub as_groups_fault : WalkFault → GroupsFault
as_groups_fault (Bad f) = Field f
as_groups_fault walk_faults.Memory = Memory
