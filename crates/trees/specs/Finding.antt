-- Helping only: what a search knows of its steps before it knows the cost of its plan, and what follows at the end.
use Rattle.std.specs.Prelude.{◌≡◌, ◌≢◌, ℕ, ◌≤◌, List, [], ◌∷◌, Option, Some, None}
use Rattle.reasons.specs.Prelude.{Instance, least_cost, Refutes, Sets}
use Rattle.cluster.specs.declared.ids.Element.{Element}
use Rattle.domains.specs.declared.parts.Part.{Part}
use Rattle.reasons.specs.declared.reason.Reason.{Reason}
use Rattle.reasons.specs.declared.reason.Reason.TheVariants.{Bound}
use Rattle.trees.specs.declared.steps.Step.{Step}
use Rattle.trees.specs.declared.steps.Step.TheVariants.{Decide, Cut, Fail, Plan, Left}
use Rattle.trees.specs.Trees.{Tree, AtEach, fail_leaf, steps_of}
use Rattle.trees.specs.Proving.{IsCut, IsOnePlan, IsSplit, Proves}
use Rattle.trees.specs.Searching.{IsUndecided, IsLean, SearchedAt, SomeUpto, plan_costs}

-- a failure by the bound comes after a plan that costs no more than the sum of the least ends, and any other reason refutes whatever
-- is handed in
pub record IsFailed (p : Instance) (e : List Step) (s : Sets) (reason : Reason) : Type 0 where
  pub met : reason ≡ Bound → SomeUpto (least_cost p s) (plan_costs e)
  pub refuted : reason ≢ Bound → Refutes p None s reason

-- undecided sets are split
pub record IsDecided (p : Instance) (e : List Step) (s : Sets) (x : Element) (part : Part) : Type 0 where
  pub split : IsSplit p s x part
  pub undecided : IsUndecided p e s

-- what a search knows of each step when it writes it
abbrev pub FoundAt : Instance → List Step → Sets → Step → Type 0
FoundAt p e s (Decide x part) = IsDecided p e s x part
FoundAt p e s (Cut x part reason) = IsCut p None s x part reason
FoundAt p e s (Fail reason) = IsFailed p e s reason
FoundAt p e s (Plan cost) = IsOnePlan p s cost
FoundAt p e s Left = IsUndecided p e s

-- a number is at most each cost
abbrev pub AllFrom : ℕ → List ℕ → Type 0
AllFrom n [] = Unit {0}
AllFrom n (cost ∷ costs) = (n ≤ cost) × AllFrom n costs

-- the cost, if there is one, is at most each of the costs; without one there are none
abbrev pub IsLow : Option ℕ → List ℕ → Type 0
IsLow (Some cost) costs = AllFrom cost costs
IsLow None costs = costs ≡ []

-- what was found proves the sets, where the plan that is kept costs no more than any that was named
abbrev pub FoundProves : Type 0
FoundProves =
    (p : Instance) (bound : Option ℕ) (s : Sets) (t : Tree) → IsLow bound (plan_costs (steps_of t)) → AtEach (FoundAt p) [] s t → Proves p bound s t

-- and it is lean, and searched at each step
abbrev pub FoundIsLean : Type 0
FoundIsLean = (p : Instance) (s : Sets) (t : Tree) → AtEach (FoundAt p) [] s t → IsLean p s t

abbrev pub FoundIsSearched : Type 0
FoundIsSearched = (p : Instance) (s : Sets) (t : Tree) → AtEach (FoundAt p) [] s t → AtEach (SearchedAt p) [] s t

-- where a plan that costs nothing is handed in, the bound alone proves any sets
abbrev pub StayingProves : Type 0
StayingProves = (p : Instance) (s : Sets) → Proves p (Some 0) s (fail_leaf Bound)
