-- Helping only: what trees say of plans, and how large they are.
use Rattle.std.specs.Prelude.{IsSomeAnd, ◌≡◌, ◌⊎◌, ℕ, ◌+◌, ◌≤◌, max, Bool, true, false, List, [], ◌∷◌, Option, Some, is_some}
use Rattle.reasons.specs.Prelude.{Choices, cost_of, Excludes, Instance, IsIn, IsInstance, IsPlan, IsValid, machine_count, node_count, Sets, size, start_sets}
use Rattle.trees.specs.declared.steps.Goal.{Goal}
use Rattle.trees.specs.Trees.{Tree, steps_of}
use Rattle.trees.specs.Proving.{Proves}
use Rattle.trees.specs.Goals.{decisions, has_left, least_shown, left_sets}
use Rattle.trees.specs.Searching.{IsLean, IsPlanOfSome, plan_sets}
use Rattle.trees.specs.Certificates.{GoalHolds, IsCertificate, IsHandedIn, least_of}

-- ---- what a tree says of the plans in the sets that it is over

-- where nothing is left, no valid plan costs less than the one that was handed in, and none is valid without one
abbrev pub ProvedExcludes : Type 0
ProvedExcludes =
    (p : Instance) → IsInstance p → (bound : Option ℕ) (s : Sets) (t : Tree) → Proves p bound s t → has_left (steps_of t) ≡ false → Excludes p bound s

-- the plan is in one of the sets
abbrev pub IsInSome : Choices → List Sets → Type 0
IsInSome plan [] = ⊥
IsInSome plan (s ∷ rest) = IsIn s plan ⊎ IsInSome plan rest

-- a valid plan costs no less than the one that was handed in, or is in sets that are left
abbrev pub ProvedLeaves : Type 0
ProvedLeaves =
    (p : Instance) → IsInstance p → (bound : Option ℕ) (s : Sets) (t : Tree) → Proves p bound s t → (plan : Choices) → IsIn s plan → IsValid p plan →
    IsSomeAnd bound (λ known. known ≤ cost_of p plan) ⊎ IsInSome plan (left_sets s t)

-- so no valid plan costs less than the least that is shown
abbrev pub LeastHolds : Type 0
LeastHolds =
    (p : Instance) → IsInstance p → (bound : Option ℕ) (s : Sets) (t : Tree) (n : ℕ) → Proves p bound s t → least_shown p bound s t ≡ Some n →
    (plan : Choices) → IsIn s plan → IsValid p plan → n ≤ cost_of p plan

-- a least is shown exactly where sets are left
abbrev pub LeastIsShown : Type 0
LeastIsShown = (p : Instance) (bound : Option ℕ) (s : Sets) (t : Tree) → is_some (least_shown p bound s t) ≡ has_left (steps_of t)

-- ---- certificates

-- what a certificate's goal says is so
abbrev pub CertificatesHold : Type 0
CertificatesHold =
    (p : Instance) → IsInstance p → (plan : Option Choices) → IsHandedIn p plan → (goal : Goal) (t : Tree) → IsCertificate p plan goal t →
    GoalHolds p plan (least_of p plan t) goal

-- a plan of one of the plan leaves is a valid plan of the instance, and costs no less than the one that was handed in
abbrev pub PlansFoundHold : Type 0
PlansFoundHold =
    (p : Instance) (bound : Option ℕ) (t : Tree) → Proves p bound (start_sets p) t → (plan : Choices) → IsPlanOfSome plan (plan_sets (start_sets p) t) →
    IsPlan p plan × IsValid p plan × IsSomeAnd bound (λ known. known ≤ cost_of p plan)

-- ---- how large trees are

-- so many decisions, with or without sets that are left, fit sets with so many plans
pub record DecisionsFit (count : ℕ) (some_left : Bool) (plans : ℕ) : Type 0 where
  pub fit : count + 1 ≤ max 1 plans
  pub more : some_left ≡ true → count + 2 ≤ plans

-- a lean tree has no decision, or fewer than there are plans in the sets that it proves; and at least two fewer where some are left
abbrev pub LeanTreesFit : Type 0
LeanTreesFit =
    (p : Instance) (bound : Option ℕ) (s : Sets) (t : Tree) → Proves p bound s t → IsLean p s t →
    DecisionsFit (decisions (steps_of t)) (has_left (steps_of t)) (size (machine_count p) (node_count p) s)
