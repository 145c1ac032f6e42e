-- The part of a plan, and the union of the plans of all parts. What is by tables, `cut_`, `joined_`, `listed_in` and what ends with `_by`, helps only.
use Rattle.std.specs.Prelude.{◌≡◌, ◌==◌, ◌<◌, ◌||◌, ℕ, Bool, true, not, IsTrue, List, [], length, map, slice_index_or}
use Rattle.std.specs.List.{list_all, range_with_len}
use Rattle.base.specs.Sums.{sum_to}
use Rattle.cluster.specs.declared.choices.Choice.{Choice}
use Rattle.cluster.specs.declared.choices.Choice.TheVariants.{Idle, Act}
use Rattle.cluster.specs.declared.choices.Place.TheVariants.{Nowhere, At}
use Rattle.cluster.specs.declared.ids.Element.{Element}
use Rattle.cluster.specs.declared.sets.NodeSet.{NodeSet}
use Rattle.catalogue.specs.Prelude.{Instance, IsElement}
use Rattle.slices.specs.Costs.{cost_of}
use Rattle.slices.specs.Elements.{machine_count, node, node_count, vm}
use Rattle.slices.specs.Plans.{Choices, choices_of, IsPlanOf, PlanChoices}
use Rattle.slices.specs.Rules.{IsValid}
use Rattle.parts.specs.Cuts.{renumbered_choice}
use Rattle.parts.specs.Groups.{in_group}
use Rattle.parts.specs.Laws.{AreValid}
use Rattle.parts.specs.Numbers.{passing}
use Rattle.parts.specs.Parts.{in_part, part_of}
use Rattle.parts.specs.Unions.{part_choices, StaysIn, union_of}
use Rattle.partition.specs.Reach.{at}

-- ---- the part of a plan

-- the choices of those whose group the table gives as this one, in their order
abbrev pub cut_choices : List ℕ → ℕ → List ℕ → List Choice → List Choice
cut_choices groups i numbers choices = map (λ x. renumbered_choice (at numbers) (slice_index_or choices x Idle)) (passing (λ x. at groups x == i) (length groups))

-- those of its machines and of its nodes
abbrev pub cut_plan : List ℕ → List ℕ → List ℕ → ℕ → PlanChoices → PlanChoices
cut_plan nodes machines numbers i plan = record { machines = cut_choices machines i numbers plan.machines; nodes = cut_choices nodes i numbers plan.nodes }

-- a choice is at no node, or at one whose group the table gives as this one
abbrev pub stays_by : List ℕ → ℕ → Choice → Bool
stays_by nodes i Idle = true
stays_by nodes i (Act Nowhere start) = true
stays_by nodes i (Act (At n) start) = at nodes n.0 == i

-- so is that of each machine whose group is this one
abbrev pub part_stays_by : List ℕ → List ℕ → ℕ → PlanChoices → Bool
part_stays_by nodes machines i plan = list_all (λ v. not (at machines v == i) || stays_by nodes i (choices_of plan (vm v))) (range_with_len 0 (length machines))

-- each machine of the part stays in its group
abbrev pub PartStays : Instance → List NodeSet → ℕ → Choices → Type 0
PartStays p groups i plan = (v : ℕ) → v < machine_count p → IsTrue (in_part p groups i v) → StaysIn groups i (plan (vm v))

-- a machine of the part does not
pub record PartLeaves (p : Instance) (groups : List NodeSet) (i : ℕ) (plan : Choices) : Type 0 where
  pub machine : ℕ
  pub within : machine < machine_count p
  pub of_part : IsTrue (in_part p groups i machine)
  pub leaves : ¬ StaysIn groups i (plan (vm machine))

-- the machines of the part stay there, and this is the plan of the part
pub record IsPartPlan (p : Instance) (groups : List NodeSet) (i : ℕ) (plan : Choices) (q : PlanChoices) : Type 0 where
  pub stays : PartStays p groups i plan
  pub plan_is : IsPlanOf (part_of p groups i) q
  pub choices : (e : Element) → choices_of q e ≡ part_choices p groups i plan e

-- ---- the union of plans

-- the choices of the plan of a number; past the end all are Idle
abbrev pub no_plan : PlanChoices
no_plan = record { machines = []; nodes = [] }

abbrev pub choices_in : List PlanChoices → ℕ → Choices
choices_in plans i = choices_of (slice_index_or plans i no_plan)

-- the choice of a plan for an element, at the node that stands at its number in the list of its group
abbrev pub joined_choice : List (List ℕ) → List PlanChoices → ℕ → Element → Choice
joined_choice lists plans i e = renumbered_choice (at (slice_index_or lists i [])) (choices_in plans i e)

abbrev pub joined_machines : List ℕ → List ℕ → List (List ℕ) → List PlanChoices → List Choice
joined_machines groups numbers lists plans = map (λ v. joined_choice lists plans (at groups v) (vm (at numbers v))) (range_with_len 0 (length groups))

abbrev pub joined_nodes : List ℕ → List ℕ → List (List ℕ) → List PlanChoices → List Choice
joined_nodes groups numbers lists plans = map (λ n. joined_choice lists plans (at groups n) (node (at numbers n))) (range_with_len 0 (length groups))

-- the nodes of each group
abbrev pub listed_in : Instance → List NodeSet → List (List ℕ)
listed_in p groups = map (λ i. passing (in_group groups i) (node_count p)) (range_with_len 0 (length groups))

-- a plan for each part
abbrev pub ArePartPlans : Instance → List NodeSet → List PlanChoices → Type 0
ArePartPlans p groups plans = (i : ℕ) → i < length groups → IsPlanOf (part_of p groups i) (slice_index_or plans i no_plan)

-- the plan is their union: its choice for each element is, and its parts are these. So it is valid where they are, and costs what they cost together
pub record IsUnion (p : Instance) (groups : List NodeSet) (plans : List PlanChoices) (whole : PlanChoices) : Type 0 where
  pub plan_is : IsPlanOf p whole
  pub choices : (e : Element) → IsElement p e → choices_of whole e ≡ union_of p groups (choices_in plans) e
  pub parts : (i : ℕ) → i < length groups → (e : Element) → part_choices p groups i (choices_of whole) e ≡ choices_in plans i e
  pub valid : AreValid p groups (choices_in plans) → IsValid p (choices_of whole)
  pub cost : cost_of p (choices_of whole) ≡ sum_to (length groups) (λ i. cost_of (part_of p groups i) (choices_in plans i))
