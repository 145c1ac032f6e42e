-- What is cited together of this crate and of those below it, passed on from one place. Declares nothing.
pub use Rattle.command_frame.specs.Prelude.{bytes_of, Files, input_line, Instance, inventory_of, IsOfReading, IsRefusal, OnlyReads, Reads}
pub use Rattle.command_frame.specs.declared.fault.Fault.{Fault}
unfoldable pub use Rattle.command_frame.specs.Prelude.{whole_of}
pub use Rattle.cluster.specs.declared.sets.NodeSet.{NodeSet}
pub use Rattle.partition.specs.{declared.groups_fault.GroupsFault.GroupsFault, Prelude.AreGroups, Prelude.groups_fault_of, Prelude.IsSplitBy, Prelude.Split, Prelude.SplitFault, Prelude.SplitView}
unfoldable pub use Rattle.partition.specs.Prelude.{fault_text as groups_text, groups_of, split_fault}
pub use Rattle.command_groups.specs.Groups.{groups_in, groups_line, groups_lined, groups_reading_of}
unfoldable pub use Rattle.command_groups.specs.Splitting.{fault_said}
pub use Rattle.command_groups.specs.Splitting.{faultless, split_by, split_in, split_reading_of}
