-- The walk of a plan: what a test gives, or the first fault.
use Rattle.std.specs.Prelude.{Option, Some, None, Result}
use Rattle.json_walk.specs.declared.fault.WalkFault.{WalkFault}
use Rattle.json_walk.specs.declared.fault.WalkFault.TheVariants as walk_faults
use Rattle.json_walk.specs.declared.fault.WalkFault.TheVariants.{Bad}
use Rattle.json_walk.specs.Members as members
use Rattle.plan_json.specs.declared.fault.PlanFault.{PlanFault}
use Rattle.plan_json.specs.declared.fault.PlanFault.TheVariants.{TooLong, NotJson, Field, NoSuch, Twice, NotLegal, MustAct, Memory}

-- a value, or the first fault
abbrev pub Walk : Type 0 → Type 0
Walk A = Result A PlanFault

-- a test of one value at its path
abbrev pub Test : Type 0 → Type 0
Test A = members.Test PlanFault A

-- the fault that an error names; want of memory names none
abbrev pub plan_fault_of : PlanFault → Option PlanFault
plan_fault_of TooLong = Some TooLong
plan_fault_of NotJson = Some NotJson
plan_fault_of (Field f) = Some (Field f)
plan_fault_of (NoSuch p) = Some (NoSuch p)
plan_fault_of (Twice p) = Some (Twice p)
plan_fault_of (NotLegal p) = Some (NotLegal p)
plan_fault_of (MustAct e) = Some (MustAct e)
plan_fault_of Memory = None

-- the fault of one value, as a fault of the plan
abbrev pub as_plan_fault : WalkFault → PlanFault
as_plan_fault (Bad f) = Field f
as_plan_fault walk_faults.Memory = Memory
