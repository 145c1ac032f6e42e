-- What is cited together of this crate and of those below it, passed on from one place. Declares nothing.
pub use Rattle.slices.specs.Prelude.{element_named, IsStagePart, LastStart}
unfoldable pub use Rattle.slices.specs.Prelude.{action_duration, is_legal, is_name, stage_at, stages_at}
pub use Rattle.judge.specs.Prelude.{Choices, choices_of, element_at, element_count, element_number, Instance, inventory_of, IsElement, IsFirstBroken, IsInstance, IsPlanOf, machine_count, name_of, PlanChoices, start_of}
unfoldable pub use Rattle.judge.specs.Prelude.{IsValid}
pub use Rattle.cluster.specs.declared.{choices.Choice.Choice, choices.Choice.TheVariants.Act, choices.Choice.TheVariants.Idle, choices.Place.Place, ids.Element.Element, ids.Element.TheVariants.Node, ids.Element.TheVariants.Vm}
pub use Rattle.executor.specs.{Answers.IsFirst, Answers.IsHindrance, Answers.IsOpen, Views.phases_of, declared.phase.Phase.Phase, declared.times.Times.Times}
pub use Rattle.executor.specs.Laws.{BeginsWell, EndsAsPlanned, EveryRunIsSafe, ExecutionsAreSafe, IsAtTheEnd, IsIdle, IsSafe, NeverStandsStill, RestKeeps, StepsKeep}
unfoldable pub use Rattle.executor.specs.Laws.{rest_stages}
pub use Rattle.executor.specs.Phases.{AllEnded, first_phase, first_phases, is_ended, Moves, phase_at, Phases, phases_in, stage_in}
unfoldable pub use Rattle.executor.specs.Phases.{stages_in}
pub use Rattle.executor.specs.Steps.{End, Event, Fail, is_over_by, IsExecution, IsStep, MayStart, Runs, Start, waits}
pub use Rattle.executor.specs.Tables.{AreTimes, is_open_at, IsFirstPlace, IsLeastOpenEnd, IsReadyAt, lesser, open_end, open_end_at, starts_before, times_of, waits_at, waits_between}
pub use Rattle.executor.specs.declared.phase.Phase.TheVariants.{Ended, Failed, None, Running, Waiting}
