-- What is cited together of this crate and of those below it, passed on from one place. Declares nothing.
pub use Rattle.command_frame.specs.Prelude.{AnswersBy, any_plan_in, bytes_of, Causes, CommandCauses, Counts, counts, Files, Instance, instance_in, IsAnswered, lined, LineEnds, max_text_bytes, NothingFailed, Outside, outside, PlanChoices, Rose, Says, told}
pub use Rattle.command_frame.specs.declared.{fault.Ending.Ending, fault.Fault.Fault, status.Status.Status}
unfoldable pub use Rattle.command_frame.specs.Prelude.{AnswersFrom, AnswersFromPlan, Ends, EndsAnyhow, PrintsPrefixOf, reading_of}
unfoldable pub use Rattle.instance_make.specs.Prelude.{instance_text}
pub use Rattle.cert_check.specs.Prelude.{choices_handed}
pub use Rattle.search.specs.Prelude.{goal_in, IsInstance, IsTrueOf, least_in, plan_in}
pub use Rattle.search.specs.declared.found.Found.{Found, TheVariants.Infeasible, TheVariants.Undecided}
pub use Rattle.solver.specs.Prelude.{IsCertifiedText}
unfoldable pub use Rattle.explain.specs.Prelude.{sub}
pub use Rattle.command_words.specs.Prelude.{asked, check, checkparts, Command, cut, demo, execute, explain, generate, parts, picture, plan, repair, replay, script, show}
pub use Rattle.command_make.specs.Prelude.{IsGenerated, IsScripted}
pub use Rattle.command_report.specs.Prelude.{Lists, Pictures, Replays}
pub use Rattle.command_carry.specs.Prelude.{Taking, taking}
unfoldable pub use Rattle.command_carry.specs.Prelude.{Executes, RepairsPlan}
pub use Rattle.command_decide.specs.Prelude.{AreAccepted, IsChecked, IsPlanned, yes_to}
unfoldable pub use Rattle.command_decide.specs.Prelude.{verdict_line}
pub use Rattle.command_demo.specs.Prelude.{IsDemonstrated}
pub use Rattle.command_explain.specs.Prelude.{WritesKept}
pub use Rattle.command_parts.specs.Prelude.{IsCutOut, IsPlannedByParts}
pub use Rattle.command_checkparts.specs.Prelude.{IsCheckedByParts}
unfoldable pub use Rattle.command_explain.specs.Prelude.{IsExplained}
unfoldable pub use Rattle.commands.specs.{Commands.IsAnswer, Printed.PrintsPrefix}
pub use Rattle.commands.specs.Commands.{KeepsDeskReads, KeepsDeskWrites, KeepsSource, Leaves, LeavesAtFailedRead, MayRun, ReadsInput, Takes}
pub use Rattle.commands.specs.Laws.{ExplainedIsChecked, LeftOpenIsChecked, PlannedIsChecked}
