-- What a search answers, and the tree that shows it.
use Rattle.std.specs.Prelude.{All, ◌≡◌, ℕ, ◌+◌, ◌<◌, ◌≤◌, Option, Some, None, IfSome}
use Rattle.cert_write.specs.Prelude.{Choices, choices_of, cost_of, decisions, HasStep, Instance, IsCertificate, IsInfeasible, IsLean, IsOptimal, IsPlanOf, IsValid, least_of, machine_count, node_count, NoneUndercuts, PlanChoices, size, start_sets, steps_of, Tree, WasSearched}
use Rattle.trees.specs.declared.steps.Goal.{Goal}
use Rattle.search.specs.declared.found.Found.{Found, TheVariants.Optimal, TheVariants.Infeasible, TheVariants.Undecided}

-- the plan that is answered, if one is
abbrev pub plan_in : Found → Option PlanChoices
plan_in (Optimal plan) = Some plan
plan_in Infeasible = None
plan_in (Undecided best least) = best

-- its choices
abbrev pub choices_in : Option PlanChoices → Option Choices
choices_in None = None
choices_in (Some plan) = Some (choices_of plan)

-- the goal that is claimed: the cost of the plan, that there is none, or that all decisions of the budget were made
abbrev pub goal_in : Instance → ℕ → Found → Goal
goal_in p budget (Optimal plan) = Goal.Optimal (cost_of p (choices_of plan))
goal_in p budget Infeasible = Goal.Infeasible
goal_in p budget (Undecided best least) = Goal.Undecided budget

-- the cost that no valid plan undercuts, where it is answered
abbrev pub least_in : Found → Option ℕ
least_in (Optimal plan) = None
least_in Infeasible = None
least_in (Undecided best least) = Some least

-- the tree proves all legal choices for the plan that is answered, and shows the goal and the least; it is lean, was searched, has no more
-- decisions than the budget, and each of its steps can be written
pub record IsTreeOf (p : Instance) (budget : ℕ) (found : Found) (t : Tree) : Type 0 where
  pub certificate : IsCertificate p (choices_in (plan_in found)) (goal_in p budget found) t
  pub least : least_in found ≡ least_of p (choices_in (plan_in found)) t
  pub lean : IsLean p (start_sets p) t
  pub searched : WasSearched p (choices_in (plan_in found)) (start_sets p) t
  pub within : decisions (steps_of t) ≤ budget
  pub writable : All (HasStep p) (steps_of t)

-- ---- what is so of all plans

-- a plan of the instance, and valid
pub record IsValidPlan (p : Instance) (plan : PlanChoices) : Type 0 where
  pub whole : IsPlanOf p plan
  pub valid : IsValid p (choices_of plan)

-- more plans are there than the budget could tell apart; the plan that is answered, if one is, is valid, and none undercuts the least
pub record IsStillOpen (p : Instance) (budget : ℕ) (best : Option PlanChoices) (least : ℕ) : Type 0 where
  pub large : budget + 1 < size (machine_count p) (node_count p) (start_sets p)
  pub best_is : IfSome best (IsValidPlan p)
  pub least_is : NoneUndercuts p least

-- what the answer says of all plans
abbrev pub IsTrueOf : Instance → ℕ → Found → Type 0
IsTrueOf p budget (Optimal plan) = IsPlanOf p plan × IsOptimal p (choices_of plan)
IsTrueOf p budget Infeasible = IsInfeasible p
IsTrueOf p budget (Undecided best least) = IsStillOpen p budget best least
