-- What is cited together of this crate and of those below it, passed on from one place. Declares nothing.
pub use Rattle.slices.specs.Prelude.{Choices, choices_of, cost_of, form_of, Instance, inventory_of, is_rule, IsInfeasible, IsInstance, IsPlan, IsPlanOf, machine_count, max_constraints, node_count, PlanChoices, Settled}
unfoldable pub use Rattle.slices.specs.Prelude.{IsValid}
pub use Rattle.search.specs.Prelude.{IsTrueOf, IsValidPlan}
pub use Rattle.search.specs.declared.found.Found.{Found}
pub use Rattle.solver.specs.Prelude.{IsCertifiedText}
pub use Rattle.explain.specs.Subs.{all_numbers, AreNumbers, IsUnsettled, picked, without}
unfoldable pub use Rattle.explain.specs.Subs.{sub}
pub use Rattle.explain.specs.Explained.{Explains, HasPlanOfCost, IsCore, IsDecided, IsEnough, IsLeftOpen, IsNeeded, IsOneFewer, IsOpen, IsRefuted, plan_count}
pub use Rattle.explain.specs.Laws.{FewerRules, SubOfAll}
pub use Rattle.explain.specs.Trials.{AreNeeded, IsShrunk, LossGives, RoundGives, TrialGives}
