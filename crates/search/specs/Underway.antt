-- A search that is under way: the steps so far, what is open, and what is kept beside them.
use Rattle.std.specs.Prelude.{All, ◌≡◌, ℕ, ◌≤◌, true, List, [], ◌∷◌, Option, Some, None, IfSome}
use Rattle.cert_write.specs.Prelude.{choices_of, cost_of, decisions, FoundAt, gathered_along, has_left, HasStep, Instance, IsPlanFound, IsPlanOf, Leads, least_cost, left_set, lower, lowest, plan_costs, plan_set, PlanChoices, Sets, start_sets}
use Rattle.trees.specs.declared.steps.Step.{Step}
use Rattle.search.specs.declared.{progress.Best.Best, progress.Progress.Progress, found.Found.Found, found.Found.TheVariants.Optimal, found.Found.TheVariants.Infeasible, found.Found.TheVariants.Undecided}
use Rattle.search.specs.Answers.{choices_in}

-- ---- the plan that is kept

abbrev pub plan_kept : Option Best → Option PlanChoices
plan_kept None = None
plan_kept (Some best) = Some best.plan

abbrev pub cost_kept : Option Best → Option ℕ
cost_kept None = None
cost_kept (Some best) = Some best.cost

-- it is whole, with its cost
pub record IsPlanOfCost (p : Instance) (best : Best) : Type 0 where
  pub whole : IsPlanOf p best.plan
  pub costs : best.cost ≡ cost_of p (choices_of best.plan)

-- it is the cheapest of those with these costs, and is that of one of the sets at plan leaves
pub record IsCheapest (p : Instance) (best : Option Best) (costs : List ℕ) (leaves : List Sets) : Type 0 where
  pub cheapest : cost_kept best ≡ lowest (λ cost. cost) costs
  pub met : IsPlanFound (choices_in (plan_kept best)) leaves
  pub plan : IfSome best (IsPlanOfCost p)

-- ---- all that is kept

abbrev pub leaves_along : Instance → List Step → List Sets
leaves_along p steps = gathered_along plan_set (start_sets p ∷ []) steps

abbrev pub left_along : Instance → List Step → List Sets
left_along p steps = gathered_along left_set (start_sets p ∷ []) steps

-- the steps lead from all legal choices to the sets that are open, what is kept is as they say, and each can be written
pub record Underway (p : Instance) (budget : ℕ) (k : Progress) (steps : List Step) (now : List Sets) : Type 0 where
  pub leads : Leads (FoundAt p) [] (start_sets p ∷ []) steps now
  pub spent : k.spent ≡ decisions steps
  pub within : k.spent ≤ budget
  pub used_up : has_left steps ≡ true → k.spent ≡ budget
  pub best : IsCheapest p k.best (plan_costs steps) (leaves_along p steps)
  pub least : k.least ≡ lowest (least_cost p) (left_along p steps)
  pub writable : All (HasStep p) steps

-- the answer once nothing is open
abbrev pub found_of : Option Best → Option ℕ → Found
found_of None None = Infeasible
found_of (Some best) None = Optimal best.plan
found_of best (Some sum) = Undecided (plan_kept best) (lower sum (cost_kept best))

-- nothing is kept yet
abbrev pub none_yet : Progress
none_yet = record { spent = 0; best = None; least = None }
