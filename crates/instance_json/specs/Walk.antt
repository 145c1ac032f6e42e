-- The walk of an instance: what a test gives, or the first fault.
use Rattle.std.specs.Prelude.{Option, Some, None, Result}
use Rattle.json_walk.specs.declared.fault.WalkFault.{WalkFault}
use Rattle.json_walk.specs.declared.fault.WalkFault.TheVariants as walk_faults
use Rattle.json_walk.specs.declared.fault.WalkFault.TheVariants.{Bad}
use Rattle.json_walk.specs.Members as members
use Rattle.instance_json.specs.declared.fault.InstanceFault.{InstanceFault}
use Rattle.instance_json.specs.declared.fault.InstanceFault.TheVariants.{TooLong, NotJson, Field, Twice, NoSuch, BadHost, Limit, Memory}

-- a value, or the first fault
abbrev pub Walk : Type 0 → Type 0
Walk A = Result A InstanceFault

-- a test of one value at its path
abbrev pub Test : Type 0 → Type 0
Test A = members.Test InstanceFault A

-- the fault that an error names; want of memory names none
abbrev pub instance_fault_of : InstanceFault → Option InstanceFault
instance_fault_of TooLong = Some TooLong
instance_fault_of NotJson = Some NotJson
instance_fault_of (Field f) = Some (Field f)
instance_fault_of (Twice p) = Some (Twice p)
instance_fault_of (NoSuch p) = Some (NoSuch p)
instance_fault_of (BadHost p) = Some (BadHost p)
instance_fault_of (Limit p) = Some (Limit p)
instance_fault_of Memory = None

-- the fault of one value, as a fault of the instance
abbrev pub as_instance_fault : WalkFault → InstanceFault
as_instance_fault (Bad f) = Field f
as_instance_fault walk_faults.Memory = Memory
