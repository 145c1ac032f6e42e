-- What is cited together of this crate and of those below it, passed on from one place. Declares nothing.
pub use Rattle.parts.specs.Groups.{AreGroups, in_group}
unfoldable pub use Rattle.parts.specs.Groups.{machine_group}
pub use Rattle.parts.specs.Laws.{ArePlans, AreValid, CostsAddUp, IsLeast, KeepsGroups, LeastsAddUp, PartIsInfeasible, PartIsSound, PartOfUnion, PartsAreValid, PlanIsUnion, Split, StayingPlanIsUnion, UnionIsOptimal, UnionsAreValid}
pub use Rattle.parts.specs.Parts.{in_part}
unfoldable pub use Rattle.parts.specs.Parts.{part_of}
unfoldable pub use Rattle.parts.specs.Splits.{split_fault}
pub use Rattle.parts.specs.Unions.{Stays, StaysIn}
unfoldable pub use Rattle.parts.specs.Unions.{part_choices, union_of}
pub use Rattle.parts.specs.declared.fault.SplitFault.{SplitFault}
pub use Rattle.parts.specs.declared.fault.SplitFault.TheVariants.{Free, Spans, Uncovered}
unfoldable pub use Rattle.partition.specs.GroupsText.{fault_text, groups_of}
pub use Rattle.partition.specs.GroupsWalk.{groups_fault_of}
pub use Rattle.partition.specs.Plans.{ArePartPlans, choices_in, IsPartPlan, IsUnion, no_plan, PartLeaves, PartStays}
pub use Rattle.partition.specs.SplitProblems.{IsSplitBy, SplitTables, SplitView}
pub use Rattle.partition.specs.declared.groups_fault.GroupsFault.{GroupsFault}
