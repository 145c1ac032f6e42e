-- What is cited together of this crate and of those below it, passed on from one place. Declares nothing.
pub use Rattle.command_frame.specs.Prelude.{any_plan_in, any_plan_lined, AnswersBy, bytes_of, Choices, choices_of, CountsWrites, Files, Instance, instance_in, IsCut, IsLastLine, IsOfReading, IsOfWriting, IsPlanOf, IsRefusal, LeavesBy, OnlyReads, OthersStay, Outside, outside, outcome_status, PartCauses, PlanChoices, ReadCauses, RestStays, Says, WriteCauses}
pub use Rattle.command_frame.specs.declared.{fault.Ending.Ending, fault.Fault.Fault, status.Status.Status}
unfoldable pub use Rattle.command_frame.specs.Prelude.{AnswersFrom, any_plan_reading_of, Ends, plan_of}
unfoldable pub use Rattle.plan_json.specs.Prelude.{plan_text}
pub use Rattle.cert_check.specs.Prelude.{CheckGives, choices_handed, CountsCheck, IsSound, IsYesUnlessOutside}
pub use Rattle.search.specs.Prelude.{goal_in, IsInstance, IsTrueOf, least_in, MayStay}
pub use Rattle.solver.specs.Prelude.{IsCertificateCut, IsCertified, IsToStay}
pub use Rattle.trees.specs.declared.steps.Goal.{Goal}
pub use Rattle.cert_read.specs.declared.line.LineFault.{LineFault, TheVariants.NotALine, TheVariants.ReadFault, TheVariants.Short, TheVariants.TooLong}
pub use Rattle.search.specs.declared.found.Found.{Found}
pub use Rattle.cert_check.specs.declared.verdict.{CheckFault.CheckFault, CheckFault.TheVariants.Line, CheckFault.TheVariants.Memory, Verdict.Verdict, Verdict.TheVariants.No, Verdict.TheVariants.Yes}
pub use Rattle.command_decide.specs.Checking.{Checks, IsChecked, IsLineRefusal, no_line, not_a_line, SaysGiven, short_line, too_long_line, undecided_line, verdict_status, why_text}
unfoldable pub use Rattle.command_decide.specs.{Checking.verdict_line, Planning.found_line}
pub use Rattle.command_decide.specs.Planning.{found_status, IsPlanCut, IsPlanned, IsWritten, LeavesPlanned}
pub use Rattle.command_decide.specs.Accepted.{AreAccepted, WrittenIsAccepted, yes_to}
