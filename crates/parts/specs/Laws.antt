-- What plans of the parts say of the whole.
use Rattle.std.specs.Prelude.{◌≡◌, ℕ, ◌<◌, ◌≤◌, List, length, None}
use Rattle.base.specs.Sums.{sum_to}
use Rattle.cluster.specs.declared.sets.NodeSet.{NodeSet}
use Rattle.catalogue.specs.Prelude.{Instance, IsElement, IsInstance}
use Rattle.cluster.specs.declared.ids.Element.{Element}
use Rattle.slices.specs.Costs.{cost_of, IsInfeasible, IsOptimal}
use Rattle.slices.specs.Plans.{Choices, IsPlan}
use Rattle.slices.specs.Rules.{IsValid}
use Rattle.parts.specs.Embeds.{Embeds}
use Rattle.parts.specs.Groups.{AreGroups, in_group}
use Rattle.parts.specs.Parts.{has_form, in_part, part_of}
use Rattle.parts.specs.Splits.{split_fault}
use Rattle.parts.specs.Unions.{part_choices, Stays, union_of}

-- the groups split the problem
pub record Split (p : Instance) (groups : List NodeSet) : Type 0 where
  pub sound : IsInstance p
  pub are_groups : AreGroups p groups
  pub faultless : split_fault p groups ≡ None

-- a part has its machines, nodes and constraints of the whole, and says of them what the whole does
abbrev pub PartEmbeds : Type 0
PartEmbeds =
    (p : Instance) (groups : List NodeSet) → Split p groups → (i : ℕ) → Embeds p (part_of p groups i) (in_part p groups i) (in_group groups i) (has_form p groups i)

-- a part is an instance
abbrev pub PartIsSound : Type 0
PartIsSound = (p : Instance) (groups : List NodeSet) → Split p groups → (i : ℕ) → IsInstance (part_of p groups i)

-- a valid plan keeps each machine in its group
abbrev pub KeepsGroups : Type 0
KeepsGroups = (p : Instance) (groups : List NodeSet) → Split p groups → (plan : Choices) → IsPlan p plan → IsValid p plan → Stays p groups plan

-- each part of a valid plan is a valid plan of its part
abbrev pub PartsAreValid : Type 0
PartsAreValid =
    (p : Instance) (groups : List NodeSet) → Split p groups → (plan : Choices) → IsPlan p plan → IsValid p plan → (i : ℕ) → i < length groups →
    IsPlan (part_of p groups i) (part_choices p groups i plan) × IsValid (part_of p groups i) (part_choices p groups i plan)

-- a plan for each part
abbrev pub ArePlans : Instance → List NodeSet → (ℕ → Choices) → Type 0
ArePlans p groups plans = (i : ℕ) → i < length groups → IsPlan (part_of p groups i) (plans i)

-- which is valid
abbrev pub AreValid : Instance → List NodeSet → (ℕ → Choices) → Type 0
AreValid p groups plans = (i : ℕ) → i < length groups → IsValid (part_of p groups i) (plans i)

-- the union of valid plans of all parts is a valid plan of the whole
abbrev pub UnionsAreValid : Type 0
UnionsAreValid =
    (p : Instance) (groups : List NodeSet) → Split p groups → (plans : ℕ → Choices) → ArePlans p groups plans → AreValid p groups plans →
    IsPlan p (union_of p groups plans) × IsValid p (union_of p groups plans)

-- a plan that keeps each machine in its group is the union of its parts
abbrev pub StayingPlanIsUnion : Type 0
StayingPlanIsUnion =
    (p : Instance) (groups : List NodeSet) → Split p groups → (plan : Choices) → IsPlan p plan → Stays p groups plan →
    (e : Element) → IsElement p e → union_of p groups (λ i. part_choices p groups i plan) e ≡ plan e

-- so is a valid plan
abbrev pub PlanIsUnion : Type 0
PlanIsUnion =
    (p : Instance) (groups : List NodeSet) → Split p groups → (plan : Choices) → IsPlan p plan → IsValid p plan →
    (e : Element) → IsElement p e → union_of p groups (λ i. part_choices p groups i plan) e ≡ plan e

-- and a part of a union of plans is the plan of the part
abbrev pub PartOfUnion : Type 0
PartOfUnion =
    (p : Instance) (groups : List NodeSet) → Split p groups → (plans : ℕ → Choices) → ArePlans p groups plans → (i : ℕ) → i < length groups →
    (e : Element) → IsElement (part_of p groups i) e → part_choices p groups i (union_of p groups plans) e ≡ plans i e

-- a union of plans costs what the plans cost together
abbrev pub CostsAddUp : Type 0
CostsAddUp =
    (p : Instance) (groups : List NodeSet) → Split p groups → (plans : ℕ → Choices) →
    cost_of p (union_of p groups plans) ≡ sum_to (length groups) (λ i. cost_of (part_of p groups i) (plans i))

-- the union of optimal plans is optimal
abbrev pub UnionIsOptimal : Type 0
UnionIsOptimal =
    (p : Instance) (groups : List NodeSet) → Split p groups → (plans : ℕ → Choices) → ((i : ℕ) → i < length groups → IsOptimal (part_of p groups i) (plans i)) →
    IsOptimal p (union_of p groups plans)

-- where a part is infeasible, so is the whole
abbrev pub PartIsInfeasible : Type 0
PartIsInfeasible = (p : Instance) (groups : List NodeSet) → Split p groups → (i : ℕ) → i < length groups → IsInfeasible (part_of p groups i) → IsInfeasible p

-- no valid plan costs less
abbrev pub IsLeast : Instance → ℕ → Type 0
IsLeast p least = (plan : Choices) → IsPlan p plan → IsValid p plan → least ≤ cost_of p plan

-- what no valid plans of the parts undercut adds up to what none of the whole does
abbrev pub LeastsAddUp : Type 0
LeastsAddUp =
    (p : Instance) (groups : List NodeSet) → Split p groups → (leasts : ℕ → ℕ) → ((i : ℕ) → i < length groups → IsLeast (part_of p groups i) (leasts i)) →
    IsLeast p (sum_to (length groups) leasts)
