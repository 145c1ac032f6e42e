-- What is cited together of this crate and of those below it, passed on from one place. Declares nothing.
pub use Rattle.command_frame.specs.Prelude.{AreTextsCut, bytes_of, Choices, choices_of, CommandCauses, counts, CountsWrites, Files, HasTexts, Instance, instance_in, IsLastLine, IsOfExecuting, IsOfReading, IsOfWriting, IsPlanOf, IsRefusal, LastEnds, LeavesFromPlan, LineEnds, max_text_bytes, Outside, outside, outcome_status, PartCauses, plan_in, PlanChoices, printed_with, Reads, Rose, Says, told, WriteCauses}
pub use Rattle.command_frame.specs.declared.{fault.Ending.Ending, fault.Fault.Fault, status.Status.Status}
unfoldable pub use Rattle.command_frame.specs.Prelude.{AnswersFromPlan, Ends, EndsAnyhow, instance_of, plan_of, PrintsPrefixOf}
unfoldable pub use Rattle.instance_make.specs.Prelude.{instance_text}
unfoldable pub use Rattle.plan_json.specs.Prelude.{plan_text}
pub use Rattle.replay.specs.Prelude.{InRange}
unfoldable pub use Rattle.replay.specs.Prelude.{broken_line}
pub use Rattle.cluster.specs.declared.ids.Element.{Element}
pub use Rattle.slices.specs.{Costs.cost_of, Rules.IsFirstBroken, declared.rule.Broken.Broken}
unfoldable pub use Rattle.slices.specs.Prelude.{IsValid}
pub use Rattle.executor.specs.{Answers.IsFirst, Phases.first_phases, Phases.Phases, Steps.IsExecution, Views.IsMonitor, Views.phases_of}
pub use Rattle.transcript.specs.Prelude.{ExecuteGives, first_point, IsBegun, NamesListed, RunGives}
pub use Rattle.transcript.specs.declared.conclusion.{Conclusion.Conclusion, Conclusion.TheVariants.Done, Conclusion.TheVariants.Refused, Conclusion.TheVariants.StoppedEnd, Conclusion.TheVariants.StoppedFail, ExecuteFault.ExecuteFault}
pub use Rattle.transcript.specs.declared.conclusion.ExecuteFault.TheVariants.{NotValid, WriteFault}
pub use Rattle.repair.specs.{Events.EndsFrom, Events.FollowGives, Events.StopsInLine, Rest.IsGoingOn}
pub use Rattle.command_carry.specs.Executing.{conclusion_status, IsPartOfAnswer, refused_line, TakesNothing, Taking, taking, Took, TookBy}
unfoldable pub use Rattle.command_carry.specs.{Executing.conclusion_line, Executing.Executes, Executing.Starts, Executing.TakesRead, Repairing.repaired_line, Repairing.RepairsPlan, Repairing.running_line, Repairing.SaysRest, Repairing.TakesEvents}
pub use Rattle.command_carry.specs.Repairing.{first_event, LeavesEnding, LeavesRepaired, LeavesRest, Repairs, RepairsBy, RepairsTold, SaysEnding, StopsAtEnding, TookEvents, TookEventsBy}
