-- Elements and their present states.
use Rattle.std.specs.Prelude.{ℕ, Bool, true, length, nat_lt, Option, Some, None, slice_get}
use Rattle.cluster.specs.declared.ids.Element.{Element}
use Rattle.cluster.specs.declared.ids.Element.TheVariants.{Vm, Node as TheNode}
use Rattle.cluster.specs.declared.choices.Place.{Place}
use Rattle.cluster.specs.declared.choices.Place.TheVariants.{Nowhere, At}
use Rattle.cluster.specs.declared.states.State.{State}
use Rattle.cluster.specs.declared.states.State.TheVariants.{Gone}
use Rattle.cluster.specs.declared.machines.Machine.{Machine}
use Rattle.catalogue.specs.Instance.{Instance}

-- the machine of a number, and the node of a number
abbrev pub vm : ℕ → Element
vm v = Vm (record { 0 = v })

abbrev pub node : ℕ → Element
node n = TheNode (record { 0 = n })

abbrev pub machine_count : Instance → ℕ
machine_count p = length p.machines

abbrev pub node_count : Instance → ℕ
node_count p = length p.nodes

abbrev pub state_in : Option Machine → State
state_in None = Gone
state_in (Some m) = m.state

-- the state of a machine at present
abbrev pub state_of : Instance → ℕ → State
state_of p v = state_in (slice_get p.machines v)

-- any node means every node of the instance
abbrev pub is_place : Instance → Place → Bool
is_place p Nowhere = true
is_place p (At n) = nat_lt n.0 (node_count p)
