-- Plans of parts and of the whole.
use Rattle.std.specs.Prelude.{ℕ, ◌<◌, List, unwrap_or, IsTrue}
use Rattle.cluster.specs.declared.choices.Choice.{Choice}
use Rattle.cluster.specs.declared.choices.Choice.TheVariants.{Idle, Act}
use Rattle.cluster.specs.declared.choices.Place.TheVariants.{Nowhere, At}
use Rattle.cluster.specs.declared.ids.Element.TheVariants.{Vm, Node as TheNode}
use Rattle.cluster.specs.declared.sets.NodeSet.{NodeSet}
use Rattle.catalogue.specs.Prelude.{Instance}
use Rattle.slices.specs.Elements.{machine_count, node, node_count, vm}
use Rattle.slices.specs.Plans.{Choices}
use Rattle.parts.specs.Cuts.{renumbered_choice}
use Rattle.parts.specs.Groups.{in_group, machine_group, node_group}
use Rattle.parts.specs.Numbers.{new_number, old_number}
use Rattle.parts.specs.Parts.{in_part}

-- a choice is at no node, or at one of the group
abbrev pub StaysIn : List NodeSet → ℕ → Choice → Type 0
StaysIn groups i Idle = Unit {0}
StaysIn groups i (Act Nowhere start) = Unit {0}
StaysIn groups i (Act (At n) start) = IsTrue (in_group groups i n.0)

-- each machine stays in its group
abbrev pub Stays : Instance → List NodeSet → Choices → Type 0
Stays p groups plan = (v : ℕ) → v < machine_count p → StaysIn groups (machine_group p groups v) (plan (vm v))

-- a part's choices of a plan: those of its elements, at the new numbers of their nodes
unfoldable pub part_choices : Instance → List NodeSet → ℕ → Choices → Choices
part_choices p groups i plan (Vm v) = renumbered_choice (new_number (in_group groups i)) (plan (vm (old_number (in_part p groups i) (machine_count p) v.0)))
part_choices p groups i plan (TheNode n) = renumbered_choice (new_number (in_group groups i)) (plan (node (old_number (in_group groups i) (node_count p) n.0)))

-- the choice of a part for a machine or a node, at the old number of its node
abbrev pub whole_choice : Instance → List NodeSet → ℕ → Choice → Choice
whole_choice p groups i c = renumbered_choice (old_number (in_group groups i) (node_count p)) c

-- the union of plans, one for each part
unfoldable pub union_of : Instance → List NodeSet → (ℕ → Choices) → Choices
union_of p groups plans (Vm v) =
    let i = machine_group p groups v.0 in
    whole_choice p groups i (plans i (vm (new_number (in_part p groups i) v.0)))
union_of p groups plans (TheNode n) =
    let i = unwrap_or (node_group groups n.0) 0 in
    whole_choice p groups i (plans i (node (new_number (in_group groups i) n.0)))
