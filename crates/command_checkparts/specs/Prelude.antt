-- What is cited together of this crate and of those below it, passed on from one place. Declares nothing.
pub use Rattle.command_frame.specs.Prelude.{AnswersBy, any_plan_in, bytes_of, Choices, choices_of, Files, input_line, Instance, instance_in, IsLastLine, IsOfReading, IsPlanOf, IsRefusal, OnlyReads, outcome_status, Outside, outside, PartCauses, PlanChoices, Reads, Says}
pub use Rattle.command_frame.specs.declared.{fault.Ending.Ending, fault.Fault.Fault, status.Status.Status}
unfoldable pub use Rattle.command_frame.specs.Prelude.{AnswersFrom, Ends, whole_of}
pub use Rattle.cluster.specs.declared.sets.NodeSet.{NodeSet}
pub use Rattle.partition.specs.Prelude.{IsSplitBy, Split, SplitView}
pub use Rattle.command_groups.specs.Prelude.{split_in}
unfoldable pub use Rattle.command_checkparts.specs.CheckingParts.{parts_line}
pub use Rattle.command_checkparts.specs.CheckingParts.{certificates_in, ChecksGroups, ChecksParts, ChecksPlan, goal_line, IsCheckedByParts, IsPartsRefusal, not_a_line, part_no_line, parts_status, SaysParts, short_line, too_long_line}
