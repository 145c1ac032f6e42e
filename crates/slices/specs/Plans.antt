-- Plans: one legal choice for each element.
use Rattle.std.specs.Prelude.{◌≡◌, ◌<◌, List, length, take, drop, slice_index_or, IsTrue}
use Rattle.cluster.specs.declared.choices.Choice.{Choice}
use Rattle.cluster.specs.declared.choices.Choice.TheVariants.{Idle}
use Rattle.cluster.specs.declared.ids.Element.{Element}
use Rattle.cluster.specs.declared.ids.Element.TheVariants.{Vm, Node as TheNode}
use Rattle.catalogue.specs.Instance.{Instance, IsElement}
use Rattle.slices.specs.Elements.{machine_count, node_count}
use Rattle.slices.specs.Actions.{is_legal}

-- a choice for each element
abbrev pub Choices : Type 0
Choices = Element → Choice

-- what contracts see of a plan: the choices of the machines, and of the nodes
pub record PlanChoices : Type 0 where
  pub machines : List Choice
  pub nodes : List Choice

-- the choice of each element; past the end it is Idle
abbrev pub choices_of : PlanChoices → Choices
choices_of plan (Vm v) = slice_index_or plan.machines v.0 Idle
choices_of plan (TheNode n) = slice_index_or plan.nodes n.0 Idle

-- the plan has a choice for the element
abbrev pub HasElement : PlanChoices → Element → Type 0
HasElement plan (Vm v) = v.0 < length plan.machines
HasElement plan (TheNode n) = n.0 < length plan.nodes

-- a list of choices in the order of the elements, machines first
abbrev pub parted : Instance → List Choice → PlanChoices
parted p choices = record { machines = take (machine_count p) choices; nodes = drop (machine_count p) choices }

-- each element has a legal choice
abbrev pub IsPlan : Instance → Choices → Type 0
IsPlan p choices = (e : Element) → IsElement p e → IsTrue (is_legal p e (choices e))

-- one legal choice for each element, and no more
pub record IsPlanOf (p : Instance) (plan : PlanChoices) : Type 0 where
  pub machines : length plan.machines ≡ machine_count p
  pub nodes : length plan.nodes ≡ node_count p
  pub legal : IsPlan p (choices_of plan)
