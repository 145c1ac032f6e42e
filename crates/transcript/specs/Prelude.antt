-- What is cited together of this crate and of those below it, passed on from one place. Declares nothing.
pub use Rattle.executor.specs.Prelude.{AllEnded, Choices, choices_of, element_at, element_count, element_named, element_number, first_phases, Instance, inventory_of, IsElement, IsExecution, IsFirst, IsHindrance, IsInstance, IsPlanOf, IsStep, MayStart, Moves, Phases, phases_of, PlanChoices, Start, start_of, waits}
unfoldable pub use Rattle.executor.specs.Prelude.{is_name, IsValid}
pub use Rattle.cluster.specs.declared.ids.Element.{Element, TheVariants.Node, TheVariants.Vm}
pub use Rattle.event_lines.specs.Lines.{BeginsLine, ReadsLine}
pub use Rattle.event_lines.specs.declared.{faults.EventFault.EventFault, lines.Line.Line, lines.Line.TheVariants.Nothing, lines.Line.TheVariants.Short, lines.Line.TheVariants.TooLong, lines.Line.TheVariants.Whole}
pub use Rattle.executor.specs.{Answers.StopGives, Views.IsSameWork, declared.phase.Phase.Phase, declared.phase.StepFault.StepFault}
pub use Rattle.executor.specs.declared.phase.Phase.TheVariants.{Ended, Failed, None, Running, Waiting}
pub use Rattle.executor.specs.declared.phase.StepFault.TheVariants.{Already, NotReady, NotRunning}
pub use Rattle.transcript.specs.{Causes.ReadCauses, Causes.WriteCauses, declared.conclusion.Conclusion.Conclusion}
pub use Rattle.transcript.specs.Laws.{AlwaysEnds, EveryPointIsSafe, FaultsLeaveABeginning, IsBegun, TranscriptIsOne}
pub use Rattle.transcript.specs.Lines.{IsEvent, kind_text}
unfoldable pub use Rattle.transcript.specs.Lines.{start_line}
pub use Rattle.transcript.specs.Parts.{BeginsStart, EventGives, IsJudged, IsOfRunning, NamesListed, StartGives, StaysIfNotValid, TakeGives}
pub use Rattle.transcript.specs.Transcript.{EndsAt, ExecuteGives, first_point, IsDue, IsEndTurn, IsRefused, IsStartTurn, IsTurn, Point, point, Reaches, RunGives, StopsInEvent, StopsInStart, TakesEvent, Turns}
pub use Rattle.transcript.specs.declared.conclusion.{Conclusion.TheVariants.Done, Conclusion.TheVariants.Refused, Conclusion.TheVariants.StoppedEnd, Conclusion.TheVariants.StoppedFail, ExecuteFault.ExecuteFault}
pub use Rattle.transcript.specs.declared.conclusion.ExecuteFault.TheVariants.{Memory, NotValid, ReadFault, WriteFault}
pub use Rattle.transcript.specs.declared.lines.{EventKind.EventKind, EventKind.TheVariants.End, EventKind.TheVariants.Fail}
