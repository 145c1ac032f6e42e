-- What `explain` answers: a valid plan, a core of constraints that are all needed, or how far it came.
use Rattle.std.specs.Prelude.{◌≡◌, ◌⊎◌, ⊤, ℕ, ◌+◌, ◌<◌, ◌≤◌, List, Contains, EachIndex, length, None, slice_index}
use Rattle.slices.specs.Prelude.{choices_of, cost_of, Instance, IsInfeasible, machine_count, node_count, PlanChoices}
use Rattle.search.specs.Prelude.{IsValidPlan, start_sets}
use Rattle.search.specs.declared.found.Found.TheVariants.{Infeasible, Undecided}
use Rattle.cert_write.specs.Prelude.{NoneUndercuts, size}
use Rattle.solver.specs.Prelude.{IsCertifiedText}
use Rattle.explain.specs.Subs.{all_numbers, AreNumbers, sub, without}
use Rattle.explain.specs.declared.explaining.Explained.{Explained}
use Rattle.explain.specs.declared.explaining.Explained.TheVariants as answer

-- ---- of one problem

-- it has a valid plan of this cost
pub record HasPlanOfCost (p : Instance) (cost : ℕ) : Type 0 where
  pub plan : PlanChoices
  pub valid_plan : IsValidPlan p plan
  pub costs : cost_of p (choices_of plan) ≡ cost

-- it has no valid plan, and the text of a tree shows that
pub record IsRefuted (p : Instance) (budget : ℕ) (certificate : List ℕ) : Type 0 where
  pub infeasible : IsInfeasible p
  pub certified : IsCertifiedText p budget Infeasible certificate

-- how many plans its legal choices make
abbrev pub plan_count : Instance → ℕ
plan_count p = size (machine_count p) (node_count p) (start_sets p)

-- it has more plans than the budget can tell apart; the text of a tree shows how far the search came, which met no valid plan, and a cost that none undercuts
pub record IsOpen (p : Instance) (budget : ℕ) (certificate : List ℕ) : Type 0 where
  pub least : ℕ
  pub least_is : NoneUndercuts p least
  pub certified : IsCertifiedText p budget (Undecided None least) certificate
  pub large : budget + 1 < plan_count p

-- ---- of a problem with some of its constraints

-- a constraint is needed: without it there is a valid plan of this cost
abbrev pub IsNeeded : Instance → List ℕ → ℕ → ℕ → Type 0
IsNeeded p kept c cost = HasPlanOfCost (sub p (without c kept)) cost

-- The problem has no valid plan, and has none with these constraints alone, as the text shows. Each of them is needed: without the one at a
-- place of the list there is a valid plan of the cost at that place.
pub record IsCore (p : Instance) (budget : ℕ) (kept certificate costs : List ℕ) : Type 0 where
  pub infeasible : IsInfeasible p
  pub numbers : AreNumbers p kept
  pub core : IsRefuted (sub p kept) budget certificate
  pub count : length costs ≡ length kept
  pub needed : EachIndex kept (λ i. IsNeeded p kept (slice_index kept i) (slice_index costs i))

-- the problem has no valid plan, and has none with a list of constraints alone that has one number more
pub record IsOneFewer (p : Instance) (kept : List ℕ) : Type 0 where
  pub infeasible : IsInfeasible p
  pub before : List ℕ
  pub numbers : AreNumbers p before
  pub core : IsInfeasible (sub p before)
  pub lost : ℕ
  pub listed : Contains before lost
  pub fewer : kept ≡ without lost before

-- with these constraints alone the problem is open; they are all, or one fewer than leave no valid plan
pub record IsLeftOpen (p : Instance) (budget : ℕ) (kept certificate : List ℕ) : Type 0 where
  pub numbers : AreNumbers p kept
  pub left : IsOpen (sub p kept) budget certificate
  pub from : (kept ≡ all_numbers p) ⊎ IsOneFewer p kept

-- ---- the answer

abbrev pub Explains : Instance → ℕ → Explained → Type 0
Explains p budget (answer.Feasible plan) = IsValidPlan p plan
Explains p budget (answer.Core kept certificate costs) = IsCore p budget kept.items certificate.items costs.items
Explains p budget (answer.Undecided kept certificate) = IsLeftOpen p budget kept.items certificate.items

-- the budget tells apart all plans, whichever constraints are kept
abbrev pub IsEnough : Instance → ℕ → Type 0
IsEnough p budget = (kept : List ℕ) → AreNumbers p kept → plan_count (sub p kept) ≤ budget + 1

abbrev pub IsDecided : Explained → Type 0
IsDecided (answer.Feasible plan) = ⊤
IsDecided (answer.Core kept certificate costs) = ⊤
IsDecided (answer.Undecided kept certificate) = ⊥
