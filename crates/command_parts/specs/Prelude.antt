-- What is cited together of this crate and of those below it, passed on from one place. Declares nothing.
pub use Rattle.command_frame.specs.Prelude.{AnswersBy, AreTextsCut, bytes_of, Choices, choices_of, CountsWrites, Files, HasText, HasTexts, input_line, Instance, instance_in, inventory_of, IsLastLine, IsOfReading, IsOfWriting, IsPlanOf, IsTextCut, LeavesBy, max_text_bytes, OnlyReads, OthersStay, outcome_status, Outside, outside, PartCauses, PlanChoices, Reads, Says, WriteCauses}
pub use Rattle.command_frame.specs.declared.{fault.Ending.Ending, fault.Fault.Fault, status.Status.Status}
unfoldable pub use Rattle.command_frame.specs.Prelude.{AnswersFrom, Ends, instance_of, plan_of}
pub use Rattle.cluster.specs.declared.sets.NodeSet.{NodeSet}
unfoldable pub use Rattle.instance_make.specs.Prelude.{instance_text}
unfoldable pub use Rattle.plan_json.specs.Prelude.{plan_text}
pub use Rattle.partition.specs.Prelude.{IsSplitBy, Split, SplitView}
unfoldable pub use Rattle.partition.specs.Prelude.{part_of}
pub use Rattle.part_solver.specs.{declared.answer.WholeAnswer.WholeAnswer, Prelude.IsAnswered, Prelude.IsTrueOfWhole, Prelude.plan_answered}
unfoldable pub use Rattle.command_parts.specs.{Cutting.cut_line, Cutting.part_number, PlanningParts.whole_line}
pub use Rattle.command_parts.specs.Cutting.{CutsPart, IsCutOut, LeavesCutOut, LeavesPart, WritesPart}
pub use Rattle.command_parts.specs.PlanningParts.{IsAnswerCut, IsPlannedByParts, LeavesPlannedByParts, LeavesPlans, PlansParts, whole_status}
pub use Rattle.command_groups.specs.Prelude.{split_in}
