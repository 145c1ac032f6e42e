-- Certificates: trees over all legal choices, for a plan or for none, and what their goals say.
use Rattle.std.specs.Prelude.{IsSomeAnd, ◌≡◌, ℕ, ◌≤◌, Option, Some, None}
use Rattle.reasons.specs.Prelude.{Choices, cost_of, Instance, IsInfeasible, IsOptimal, IsPlan, IsValid, start_sets}
use Rattle.trees.specs.declared.steps.Goal.{Goal}
use Rattle.trees.specs.declared.steps.Goal.TheVariants.{Optimal, Infeasible, Undecided}
use Rattle.trees.specs.Trees.{Tree, steps_of}
use Rattle.trees.specs.Proving.{Proves}
use Rattle.trees.specs.Goals.{least_shown, shown}

-- the cost of the plan that is handed in, if one is
abbrev pub bound_of : Instance → Option Choices → Option ℕ
bound_of p (Some plan) = Some (cost_of p plan)
bound_of p None = None

-- the tree proves all legal choices for the plan, or for none, and shows the goal
pub record IsCertificate (p : Instance) (plan : Option Choices) (goal : Goal) (t : Tree) : Type 0 where
  pub proves : Proves p (bound_of p plan) (start_sets p) t
  pub shows : goal ≡ shown (bound_of p plan) (steps_of t)

-- the least that a certificate shows where something is left
abbrev pub least_of : Instance → Option Choices → Tree → Option ℕ
least_of p plan t = least_shown p (bound_of p plan) (start_sets p) t

-- no valid plan costs less
abbrev pub NoneUndercuts : Instance → ℕ → Type 0
NoneUndercuts p n = (plan : Choices) → IsPlan p plan → IsValid p plan → n ≤ cost_of p plan

-- optimal: the plan is there, is optimal, and costs so much; infeasible: no plan is valid; undecided: no valid plan undercuts the least
abbrev pub GoalHolds : Instance → Option Choices → Option ℕ → Goal → Type 0
GoalHolds p plan least (Optimal cost) = IsSomeAnd plan (λ one. IsOptimal p one × (cost_of p one ≡ cost))
GoalHolds p plan least Infeasible = IsInfeasible p
GoalHolds p plan least (Undecided count) = IsSomeAnd least (NoneUndercuts p)

-- a plan that is handed in is a valid plan of the instance
abbrev pub IsHandedIn : Instance → Option Choices → Type 0
IsHandedIn p (Some plan) = IsPlan p plan × IsValid p plan
IsHandedIn p None = Unit {0}
