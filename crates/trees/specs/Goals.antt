-- The goal that a tree shows, and the cost that no valid plan undercuts where sets are left.
use Rattle.std.specs.Prelude.{ℕ, ◌+◌, Bool, true, false, List, [], ◌∷◌, Option, Some, None}
use Rattle.base.specs.Least.{lower, lowest}
use Rattle.reasons.specs.Prelude.{Instance, least_cost, Sets}
use Rattle.trees.specs.declared.steps.Step.{Step}
use Rattle.trees.specs.declared.steps.Step.TheVariants.{Decide, Cut, Fail, Plan, Left}
use Rattle.trees.specs.declared.steps.Goal.{Goal}
use Rattle.trees.specs.declared.steps.Goal.TheVariants.{Optimal, Infeasible, Undecided}
use Rattle.trees.specs.Trees.{Tree, gathered}

-- how many steps are decisions
abbrev pub decisions : List Step → ℕ
decisions [] = 0
decisions (Decide x part ∷ steps) = 1 + decisions steps
decisions (Cut x part reason ∷ steps) = decisions steps
decisions (Fail reason ∷ steps) = decisions steps
decisions (Plan cost ∷ steps) = decisions steps
decisions (Left ∷ steps) = decisions steps

-- whether some sets are left
abbrev pub has_left : List Step → Bool
has_left [] = false
has_left (Decide x part ∷ steps) = has_left steps
has_left (Cut x part reason ∷ steps) = has_left steps
has_left (Fail reason ∷ steps) = has_left steps
has_left (Plan cost ∷ steps) = has_left steps
has_left (Left ∷ steps) = true

-- undecided where sets are left, else optimal where a plan of a cost is handed in, and else infeasible
abbrev pub goal_of : Bool → ℕ → Option ℕ → Goal
goal_of true count bound = Undecided count
goal_of false count (Some cost) = Optimal cost
goal_of false count None = Infeasible

abbrev pub shown : Option ℕ → List Step → Goal
shown bound steps = goal_of (has_left steps) (decisions steps) bound

-- ---- what no valid plan undercuts

-- the sets, where they are left
abbrev pub left_set : Sets → Step → List Sets
left_set s (Decide x part) = []
left_set s (Cut x part reason) = []
left_set s (Fail reason) = []
left_set s (Plan cost) = []
left_set s Left = s ∷ []

-- all sets that are left
abbrev pub left_sets : Sets → Tree → List Sets
left_sets s t = gathered left_set s t

-- the lower of a least cost, if there is one, and the cost of the plan that was handed in, if one was
abbrev pub lower_of : Option ℕ → Option ℕ → Option ℕ
lower_of bound None = None
lower_of bound (Some cost) = Some (lower cost bound)

-- where sets are left, the least of their sums of least ends and of the cost of the plan that was handed in
abbrev pub least_shown : Instance → Option ℕ → Sets → Tree → Option ℕ
least_shown p bound s t = lower_of bound (lowest (least_cost p) (left_sets s t))
