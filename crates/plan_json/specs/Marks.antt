-- Helping only: which elements the actions that were read are of.
use Rattle.std.specs.Prelude.{◌≡◌, ◌<◌, ℕ, true, Bool, List, [], ◌∷◌, is_none, is_some, ◌&&◌, IsTrue}
use Rattle.std.specs.List.{All}
use Rattle.slices.specs.Prelude.{has_machine, has_node, Instance, is_legal, IsElement, max_machines, max_nodes}
use Rattle.cluster.specs.declared.ids.Element.{Element}
use Rattle.cluster.specs.declared.ids.Element.TheVariants.{Vm, Node}
use Rattle.cluster.specs.declared.sets.MachineSet.{MachineSet}
use Rattle.cluster.specs.declared.sets.NodeSet.{NodeSet}
use Rattle.plan_json.specs.declared.fields.Action.{Action}
use Rattle.plan_json.specs.Plans.{action_for, as_choice}

-- the sets have the elements of the actions alone
pub record AreMarked (machines : MachineSet) (nodes : NodeSet) (actions : List Action) : Type 0 where
  pub machines_are : (v : ℕ) → has_machine machines v ≡ is_some (action_for actions (Vm (record { 0 = v })))
  pub nodes_are : (n : ℕ) → has_node nodes n ≡ is_some (action_for actions (Node (record { 0 = n })))

-- the sets have a place for the element
abbrev pub IsWithinLimits : Element → Type 0
IsWithinLimits (Vm v) = v.0 < max_machines
IsWithinLimits (Node n) = n.0 < max_nodes

-- whether no two actions are of one element
abbrev pub are_apart : List Action → Bool
are_apart [] = true
are_apart (action ∷ actions) = is_none (action_for actions action.element) && are_apart actions

-- legal actions of elements that differ
pub record AreActions (p : Instance) (actions : List Action) : Type 0 where
  pub elements : All (λ action. IsElement p action.element) actions
  pub legal : All (λ action. IsTrue (is_legal p action.element (as_choice action))) actions
  pub apart : are_apart actions ≡ true
