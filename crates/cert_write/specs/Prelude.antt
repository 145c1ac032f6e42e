-- What is cited together of this crate and of those below it, passed on from one place. Declares nothing.
pub use Rattle.trees.specs.Prelude.{Choices, choices_of, cost_of, decisions, FoundAt, gathered_along, has_left, HaveChoices, inside, IsCertificate, IsClosed, IsFixed, IsInfeasible, IsLean, IsOptimal, IsPlan, IsPlanFound, IsPlanOf, IsSplit, Leads, least_of, left_set, lower, lowest, NoneUndercuts, outside, plan_costs, plan_set, PlanChoices, RegionView, Sets, sets, size, steps_of, Tree, WasSearched}
unfoldable pub use Rattle.trees.specs.Prelude.{IsValid, least_cost, start_sets}
pub use Rattle.cert_text.specs.Prelude.{HasStep, Instance, IsInstance, machine_count, node_count}
unfoldable pub use Rattle.cert_text.specs.Prelude.{end_line, step_line}
pub use Rattle.plan_io.specs.Files.{Files, OthersStay}
