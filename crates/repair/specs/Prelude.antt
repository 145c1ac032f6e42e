-- What is cited together of this crate and of those below it, passed on from one place. Declares nothing.
pub use Rattle.slices.specs.Prelude.{Choices, choices_of, element_at, element_count, Instance, inventory_of, IsElement, IsInstance, IsInventory, IsPlanOf, machine_count, max_resources, node, node_count, PlanChoices, vm}
unfoldable pub use Rattle.slices.specs.Prelude.{demand_of, IsValid}
pub use Rattle.event_lines.specs.Prelude.{LineCauses}
pub use Rattle.executor.specs.{Answers.IsFirst, Phases.is_ended, Phases.Phases, Steps.IsExecution, Views.IsMonitor, Views.IsSameWork, Views.phases_of}
pub use Rattle.repair.specs.Answers.{RestGives}
pub use Rattle.repair.specs.Events.{EndsAt, EndsFrom, event_of, FollowGives, IsEvent, IsRefused, IsTurn, IsWrong, Point, point, Reaches, StopsInLine, Tells, Turns, word_text}
pub use Rattle.repair.specs.Laws.{EndingIsOne, OfEachRest, RestCosts, RestHosts, RestIsPlan, RestIsSound, RestIsValid}
pub use Rattle.repair.specs.Parts.{LineDoes, TakeGives}
pub use Rattle.repair.specs.Rest.{AreChanged, done_choices, in_state, IsGoingOn, IsRest, machine_after, node_after, open_cost, rest_choices, runs_at, sleeps_on_host, state_after, state_by, use_after}
pub use Rattle.repair.specs.declared.words.Word.{Word}
