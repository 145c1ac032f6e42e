-- The cost of a plan, and the best plan.
use Rattle.std.specs.Prelude.{ℕ, ◌+◌, ◌≤◌}
use Rattle.base.specs.Sums.{sum_to}
use Rattle.catalogue.specs.Instance.{Instance}
use Rattle.slices.specs.Elements.{machine_count, node_count, vm, node}
use Rattle.slices.specs.Actions.{end_of}
use Rattle.slices.specs.Plans.{Choices, IsPlan}
use Rattle.slices.specs.Rules.{IsValid}

-- the sum of the ends of all actions
abbrev pub cost_of : Instance → Choices → ℕ
cost_of p plan =
    sum_to (machine_count p) (λ v. end_of p (vm v) (plan (vm v))) + sum_to (node_count p) (λ n. end_of p (node n) (plan (node n)))

-- a valid plan than which no valid plan costs less
pub record IsOptimal (p : Instance) (plan : Choices) : Type 0 where
  pub legal : IsPlan p plan
  pub valid : IsValid p plan
  pub least : (other : Choices) → IsPlan p other → IsValid p other → cost_of p plan ≤ cost_of p other

-- no plan is valid
abbrev pub IsInfeasible : Instance → Type 0
IsInfeasible p = (plan : Choices) → IsPlan p plan → ¬ IsValid p plan
