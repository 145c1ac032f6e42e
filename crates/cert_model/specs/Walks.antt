-- What a walk over the steps of a certificate keeps, and what its answers mean.
use Rattle.std.specs.Prelude.{◌≡◌, ◌≢◌, ◌⊎◌, ℕ, ◌+◌, ◌<◌, ◌^◌, Bool, true, List, [], ◌∷◌, ◌++◌, length, map, Option, Some, None, MatchOption}
use Rattle.trees.specs.Prelude.{Choices, choices_of, decisions, gathered_along, inside, Instance, IsElement, IsLean, IsPlanLeaf, IsSplit, Leads, LeanAt, least_cost, left_set, lower_of, lowest, machine_count, node_count, plan_costs, PlanChoices, Proves, Refutes, RegionView, Sets, sets, shown, start_sets, StepHolds, steps_of, Tree}
use Rattle.prop_core.specs.Prelude.{Meaning}
use Rattle.standings.specs.Prelude.{Tables}
use Rattle.quick_checks.specs.declared.tally.Tally.{Tally}
use Rattle.trees.specs.declared.steps.{Goal.Goal as TreeGoal, Step.Step, Step.TheVariants.Decide, Step.TheVariants.Cut, Step.TheVariants.Fail, Step.TheVariants.Plan as PlanStep, Step.TheVariants.Left}
use Rattle.cert_model.specs.{declared.frontier.Due.Due, declared.frontier.Outer.Outer, declared.why.Why.Why, declared.why.Why.TheVariants.Structure, declared.why.Why.TheVariants.Name, declared.why.Why.TheVariants.Part, declared.why.Why.TheVariants.Reason, declared.why.Why.TheVariants.Plan, declared.why.Why.TheVariants.Goal, declared.why.Why.TheVariants.Lean, Following.FollowWhile, Open.due_sets, Open.due_sums, Open.outer_sets}

-- what a contract sees of a `Walk`
pub record Kept : Type 0 where
  -- the region at hand, what of it is due, and the sum of the least ends of that
  pub region : RegionView
  pub due : Due
  pub sum : ℕ
  -- the region at each decision whose outer side is open, and these sides; the newest first
  pub marks : List RegionView
  pub outers : List Outer
  -- how many decisions were made, the cheapest plan that was named, and the least of the sums of what was left
  pub decisions : ℕ
  pub cheapest : Option ℕ
  pub least_left : Option ℕ
  -- the cost of the plan that was handed in, and whether the tree has to be lean
  pub bound : Option ℕ
  pub strict : Bool
  -- whether propagators follow the regions, and whether these numbers of machines do
  pub follow : Bool
  pub counted : Bool
  pub table : Tables
  -- what machines hold together in the region at hand, of one constraint or of none
  pub tally : Option Tally

-- the sets that are open, those that are due first, and the sum of the least ends that is kept of each
abbrev pub open_of : Kept → List Sets
open_of w = due_sets w.due (sets w.region) ++ outer_sets w.marks w.outers

abbrev pub sums_of : Kept → List ℕ
sums_of w = due_sums w.due w.sum ++ map (λ o. o.sum) w.outers

-- all that a walk stands for is as it was
pub record IsUnchanged (old new : Kept) : Type 0 where
  pub open_sets : open_of new ≡ open_of old
  pub sums : sums_of new ≡ sums_of old
  pub machines : length new.region.machines ≡ length old.region.machines
  pub nodes : length new.region.nodes ≡ length old.region.nodes
  pub decisions : new.decisions ≡ old.decisions
  pub cheapest : new.cheapest ≡ old.cheapest
  pub least_left : new.least_left ≡ old.least_left
  pub bound : new.bound ≡ old.bound
  pub strict : new.strict ≡ old.strict

-- the choices of the plan that is handed in, if one is
abbrev pub choices_handed : Option PlanChoices → Option Choices
choices_handed None = None
choices_handed (Some plan) = Some (choices_of plan)

-- ---- the steps that a walk stands for

-- a step holds, and is lean where that is asked
abbrev pub WalkAt : Instance → Option ℕ → Bool → List Step → Sets → Step → Type 0
WalkAt p bound strict e s step = StepHolds p bound s step × (strict ≡ true → LeanAt p e s step)

-- steps that hold lead from all legal choices to these open sets
abbrev pub LeadsTo : Instance → Option ℕ → Bool → List Step → List Sets → Type 0
LeadsTo p bound strict steps now = Leads (WalkAt p bound strict) [] (start_sets p ∷ []) steps now

-- the sets that the steps leave
abbrev pub left_along : Instance → List Step → List Sets
left_along p steps = gathered_along left_set (start_sets p ∷ []) steps

-- the walk stands for the steps: they hold and lead to what is open, and all that is kept is as they say
pub record Stands (p : Instance) (bound : Option ℕ) (strict : Bool) (steps : List Step) (w : Kept) : Type 0 where
  pub leads : LeadsTo p bound strict steps (open_of w)
  pub sums : sums_of w ≡ map (least_cost p) (open_of w)
  pub machines : length w.region.machines ≡ machine_count p
  pub nodes : length w.region.nodes ≡ node_count p
  pub decisions : w.decisions ≡ decisions steps
  pub cheapest : w.cheapest ≡ lowest (λ cost. cost) (plan_costs steps)
  pub least_left : w.least_left ≡ lowest (least_cost p) (left_along p steps)
  pub handed_in : w.bound ≡ bound
  pub mode : w.strict ≡ strict

-- it stands for some steps, and one more can be counted
pub record IsStanding (p : Instance) (w : Kept) : Type 0 where
  pub bound : Option ℕ
  pub strict : Bool
  pub steps : List Step
  pub stands : Stands p bound strict steps w
  pub few : length steps + 1 < 2 ^ 64

-- while the walk says so, the propagators that are handed in, the numbers of machines and what some of them hold follow its regions
abbrev pub FollowWalk : {B : Type 0} → (B → Meaning) → Instance → Kept → List B → Type 0
FollowWalk m p w xs = FollowWhile m p (record { region = w.region; marks = w.marks }) w.follow xs w.counted w.table w.tally

-- ---- why a step is refused

-- the element is there, and a decision's part parts its choices
abbrev pub PartHolds : Instance → Sets → Step → Type 0
PartHolds p s (Decide x part) = IsSplit p s x part
PartHolds p s (Cut x part reason) = IsElement p x
PartHolds p s (Fail reason) = Unit {0}
PartHolds p s (PlanStep cost) = Unit {0}
PartHolds p s Left = Unit {0}

-- the reason refutes the sets, or what is inside the part that is cut away
abbrev pub ReasonHolds : Instance → Option ℕ → Sets → Step → Type 0
ReasonHolds p bound s (Decide x part) = Unit {0}
ReasonHolds p bound s (Cut x part reason) = Refutes p bound (inside x part s) reason
ReasonHolds p bound s (Fail reason) = Refutes p bound s reason
ReasonHolds p bound s (PlanStep cost) = Unit {0}
ReasonHolds p bound s Left = Unit {0}

-- the sets are one valid plan of that cost, which is no less than that of the plan handed in
abbrev pub PlanHolds : Instance → Option ℕ → Sets → Step → Type 0
PlanHolds p bound s (Decide x part) = Unit {0}
PlanHolds p bound s (Cut x part reason) = Unit {0}
PlanHolds p bound s (Fail reason) = Unit {0}
PlanHolds p bound s (PlanStep cost) = IsPlanLeaf p bound s cost
PlanHolds p bound s Left = Unit {0}

-- what is wrong with a step at the sets that are due: its part, its reason or its plan
abbrev pub IsFault : Instance → Option ℕ → Sets → Step → Why → Type 0
IsFault p bound s step Structure = ⊥
IsFault p bound s step Name = ⊥
IsFault p bound s step Part = ¬ PartHolds p s step
IsFault p bound s step Reason = PartHolds p s step × ¬ ReasonHolds p bound s step
IsFault p bound s step Plan = ¬ PlanHolds p bound s step
IsFault p bound s step Goal = ⊥
IsFault p bound s step Lean = ⊥

-- it holds, but is not lean as it has to be
pub record IsUnlean (p : Instance) (bound : Option ℕ) (strict : Bool) (e : List Step) (s : Sets) (step : Step) : Type 0 where
  pub holds : StepHolds p bound s step
  pub asked : strict ≡ true
  pub unlean : ¬ LeanAt p e s step

abbrev pub IsWrong : Instance → Option ℕ → Bool → List Step → Sets → Step → Why → Type 0
IsWrong p bound strict e s step why = IsFault p bound s step why ⊎ (IsUnlean p bound strict e s step × (why ≡ Lean))

-- a step was due at sets at which this is wrong with it
pub record IsRefused (p : Instance) (bound : Option ℕ) (strict : Bool) (steps : List Step) (step : Step) (why : Why) : Type 0 where
  pub due : Sets
  pub rest : List Sets
  pub leads : LeadsTo p bound strict steps (due ∷ rest)
  pub wrong : IsWrong p bound strict steps due step why

-- nothing is open, or the step is refused where it is due
abbrev pub IsWhy : Instance → Option ℕ → Bool → List Step → Step → Why → Type 0
IsWhy p bound strict steps step why = (LeadsTo p bound strict steps [] × (why ≡ Structure)) ⊎ IsRefused p bound strict steps step why

-- the answer to a step, for all steps that the walk stands for: it goes on, or is unchanged and says why not
abbrev pub Answers : Instance → Kept → Kept → Step → Option Why → Type 0
Answers p old new step answer =
    (bound : Option ℕ) (strict : Bool) (steps : List Step) → Stands p bound strict steps old →
    MatchOption answer (Stands p bound strict (steps ++ step ∷ []) new) (λ why. IsUnchanged old new × IsWhy p bound strict steps step why)

-- ---- the end

-- the steps are those of a tree that proves all legal choices, lean where that is asked
pub record IsProof (p : Instance) (bound : Option ℕ) (strict : Bool) (steps : List Step) : Type 0 where
  pub tree : Tree
  pub same : steps ≡ steps_of tree
  pub proves : Proves p bound (start_sets p) tree
  pub lean : strict ≡ true → IsLean p (start_sets p) tree

-- the tree is not whole, or the goal is not the one that it shows
abbrev pub IsEndWhy : Instance → Option ℕ → Bool → List Step → TreeGoal → Why → Type 0
IsEndWhy p bound strict steps goal Structure = ¬ IsProof p bound strict steps
IsEndWhy p bound strict steps goal Name = ⊥
IsEndWhy p bound strict steps goal Part = ⊥
IsEndWhy p bound strict steps goal Reason = ⊥
IsEndWhy p bound strict steps goal Plan = ⊥
IsEndWhy p bound strict steps goal Goal = IsProof p bound strict steps × (goal ≢ shown bound steps)
IsEndWhy p bound strict steps goal Lean = ⊥

-- the answer to a goal, for all steps that the walk stands for
abbrev pub Ends : Instance → Kept → TreeGoal → Option Why → Type 0
Ends p w goal answer =
    (bound : Option ℕ) (strict : Bool) (steps : List Step) → Stands p bound strict steps w →
    MatchOption answer (IsProof p bound strict steps × (goal ≡ shown bound steps)) (IsEndWhy p bound strict steps goal)

-- where steps leave sets, the least of their sums and of the cost of the plan that was handed in
abbrev pub least_along : Instance → Option ℕ → List Step → Option ℕ
least_along p bound steps = lower_of bound (lowest (least_cost p) (left_along p steps))

-- that is the answer, for all steps that the walk stands for
abbrev pub IsLeast : Instance → Kept → Option ℕ → Type 0
IsLeast p w answer = (bound : Option ℕ) (strict : Bool) (steps : List Step) → Stands p bound strict steps w → answer ≡ least_along p bound steps

-- and so it is told whether the steps are a whole tree
abbrev pub IsWholeAt : Instance → Kept → Bool → Type 0
IsWholeAt p w answer = (bound : Option ℕ) (strict : Bool) (steps : List Step) → Stands p bound strict steps w → (answer ≡ true → LeadsTo p bound strict steps []) × (LeadsTo p bound strict steps [] → answer ≡ true)
