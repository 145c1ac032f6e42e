-- Trees as a search leaves them: what is decided is closed, and plans that were met come first.
use Rattle.std.specs.Prelude.{◌≡◌, ◌≢◌, ◌⊎◌, ℕ, ◌<◌, ◌≤◌, List, [], ◌∷◌, length, Option, Some, None}
use Rattle.reasons.specs.Prelude.{Choices, Instance, IsClosed, IsElement, IsOnly, IsValid, least_cost, Sets}
use Rattle.cluster.specs.declared.choices.Choice.TheVariants.{Idle}
use Rattle.cluster.specs.declared.ids.Element.{Element}
use Rattle.reasons.specs.declared.reason.Reason.TheVariants.{Bound}
use Rattle.trees.specs.declared.steps.Step.{Step}
use Rattle.trees.specs.declared.steps.Step.TheVariants.{Decide, Cut, Fail, Plan, Left}
use Rattle.trees.specs.Trees.{Tree, fail_leaf, AtEach, gathered}

-- the costs of the plans that the steps name
abbrev pub plan_costs : List Step → List ℕ
plan_costs [] = []
plan_costs (Decide x part ∷ steps) = plan_costs steps
plan_costs (Cut x part reason ∷ steps) = plan_costs steps
plan_costs (Fail reason ∷ steps) = plan_costs steps
plan_costs (Plan cost ∷ steps) = cost ∷ plan_costs steps
plan_costs (Left ∷ steps) = plan_costs steps

-- each cost is above a number
abbrev pub AllAbove : ℕ → List ℕ → Type 0
AllAbove n [] = Unit {0}
AllAbove n (cost ∷ costs) = (n < cost) × AllAbove n costs

-- some cost is at most a number
abbrev pub SomeUpto : ℕ → List ℕ → Type 0
SomeUpto n [] = ⊥
SomeUpto n (cost ∷ costs) = (cost ≤ n) ⊎ SomeUpto n costs

-- each element has exactly one choice
abbrev pub AreFixed : Instance → Sets → Type 0
AreFixed p s = (e : Element) → IsElement p e → length (s e) ≡ 1

-- ---- lean trees

-- the sets are closed, are not one plan, and the sum of their least ends is below the cost of each plan named so far
pub record IsUndecided (p : Instance) (e : List Step) (s : Sets) : Type 0 where
  pub closed : IsClosed p s
  pub not_one : ¬ AreFixed p s
  pub below : AllAbove (least_cost p s) (plan_costs e)

-- so they are where something is decided or left
abbrev pub LeanAt : Instance → List Step → Sets → Step → Type 0
LeanAt p e s (Decide x part) = IsUndecided p e s
LeanAt p e s (Cut x part reason) = Unit {0}
LeanAt p e s (Fail reason) = Unit {0}
LeanAt p e s (Plan cost) = Unit {0}
LeanAt p e s Left = IsUndecided p e s

abbrev pub IsLean : Instance → Sets → Tree → Type 0
IsLean p s t = AtEach (LeanAt p) [] s t

-- ---- searched trees

-- no cut is by the bound, and a failure by the bound comes after a plan that costs no more than the sum of the least ends
abbrev pub SearchedAt : Instance → List Step → Sets → Step → Type 0
SearchedAt p e s (Decide x part) = Unit {0}
SearchedAt p e s (Cut x part reason) = reason ≢ Bound
SearchedAt p e s (Fail reason) = reason ≡ Bound → SomeUpto (least_cost p s) (plan_costs e)
SearchedAt p e s (Plan cost) = Unit {0}
SearchedAt p e s Left = Unit {0}

-- the sets at a plan leaf
abbrev pub plan_set : Sets → Step → List Sets
plan_set s (Decide x part) = []
plan_set s (Cut x part reason) = []
plan_set s (Fail reason) = []
plan_set s (Plan cost) = s ∷ []
plan_set s Left = []

abbrev pub plan_sets : Sets → Tree → List Sets
plan_sets s t = gathered plan_set s t

-- the plan is that of one of the plan leaves
abbrev pub IsPlanOfSome : Choices → List Sets → Type 0
IsPlanOfSome plan [] = ⊥
IsPlanOfSome plan (s ∷ rest) = IsOnly s plan ⊎ IsPlanOfSome plan rest

-- the plan, if there is one, is that of a plan leaf; without a plan there is no plan leaf
abbrev pub IsPlanFound : Option Choices → List Sets → Type 0
IsPlanFound (Some plan) leaves = IsPlanOfSome plan leaves
IsPlanFound None leaves = leaves ≡ []

-- each step is as a search leaves it, and the plan is one that the tree names
pub record IsSearched (p : Instance) (plan : Option Choices) (s : Sets) (t : Tree) : Type 0 where
  pub each : AtEach (SearchedAt p) [] s t
  pub found : IsPlanFound plan (plan_sets s t)

-- the one tree that names no plan though there is one: staying as all is costs nothing, so nothing is below it
abbrev pub IsStaying : Instance → Option Choices → Tree → Type 0
IsStaying p (Some plan) t = (t ≡ fail_leaf Bound) × ((e : Element) → plan e ≡ Idle) × IsValid p plan
IsStaying p None t = ⊥

abbrev pub WasSearched : Instance → Option Choices → Sets → Tree → Type 0
WasSearched p plan s t = IsSearched p plan s t ⊎ IsStaying p plan t
