-- What is cited together of this crate and of those below it, passed on from one place. Declares nothing.
pub use Rattle.plan_io.specs.Prelude.{bytes_of, CountsWrites, Files, IsCut, OthersStay, Rose}
pub use Rattle.plan_io.specs.declared.faults.OutFault.{OutFault}
pub use Rattle.json_walk.specs.Json.{max_text_bytes}
pub use Rattle.slices.specs.Prelude.{Choices, choices_of, Instance, inventory_of, IsPlanOf, PlanChoices}
pub use Rattle.instance_json.specs.{Prelude.Fails, Prelude.instance_fault_of, declared.fault.InstanceFault.InstanceFault}
unfoldable pub use Rattle.instance_json.specs.Prelude.{instance_of}
pub use Rattle.plan_json.specs.Prelude.{plan_fault_of}
unfoldable pub use Rattle.plan_json.specs.Prelude.{plan_of}
pub use Rattle.command_frame.specs.Answer.{AnswersBy, LeavesBy, LeavesFromPlan, Outside, outside, Says, told}
unfoldable pub use Rattle.command_frame.specs.{Answer.AnswersFrom, Answer.AnswersFromPlan, Endings.Ends, Endings.EndsAnyhow, Inputs.whole_of, Inputs.Instance.reading_of, Inputs.Plan.any_plan_reading_of, Printed.PrintsPrefixOf}
pub use Rattle.command_frame.specs.Causes.{Causes, CommandCauses, Counts, counts, NothingFailed, OnlyReads, PartCauses, ReadCauses, WriteCauses}
pub use Rattle.command_frame.specs.Endings.{fault_status, IsAnswered, IsLastLine, IsOfExecuting, IsOfReading, IsOfWriting, IsRefusal, LastEnds, line_of, LineEnds, out_fault, outcome_status, printed_with, Reads}
pub use Rattle.command_frame.specs.{Inputs.input_line, Inputs.Instance.instance_in, Inputs.Instance.instance_line, Inputs.Instance.lined}
pub use Rattle.command_frame.specs.Inputs.Plan.{any_plan_in, any_plan_lined, needed, plan_in, plan_line}
pub use Rattle.command_frame.specs.Outputs.{AreTextsCut, HasText, HasTexts, IsTextCut, RestStays}
pub use Rattle.command_frame.specs.declared.{fault.Ending.Ending, fault.Fault.Fault, status.Status.Status}
