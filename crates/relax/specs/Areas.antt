-- Sets of nodes as they are asked for, and what may be asked.
use Rattle.std.specs.Prelude.{◌≡◌, Bool, false, not, length, IsTrue, Option, Some, None}
use Rattle.std.specs.List.{Contains}
use Rattle.reasons.specs.Prelude.{all_nodes, has_node, host_of, Instance, is_legal, IsElement, machine_count, node_count, Nodes, one, RegionView, Sets}
use Rattle.cluster.specs.declared.{choices.Choice.Choice, choices.Choice.TheVariants.Idle, choices.Choice.TheVariants.Act, choices.Place.TheVariants.Nowhere, choices.Place.TheVariants.At, ids.Element.Element, ids.NodeId.NodeId, states.State.State}
use Rattle.relax.specs.declared.area.Area.{Area, TheVariants.One, TheVariants.All, TheVariants.In, TheVariants.OutsideOne, TheVariants.Outside}
pub use Rattle.slices.specs.Snapshots.{IsWeight}

-- the nodes of an area
abbrev pub nodes_of : Instance → Area → Nodes
nodes_of p (One n) = one n.0
nodes_of p All = all_nodes p
nodes_of p (In set) = has_node set
nodes_of p (OutsideOne n) = λ m. not (one n.0 m)
nodes_of p (Outside set) = λ m. not (has_node set m)

-- the region has a domain for each element of the instance, and no more
pub record IsSized (p : Instance) (g : RegionView) : Type 0 where
  pub machines : length g.machines ≡ machine_count p
  pub nodes : length g.nodes ≡ node_count p

-- each choice of an element of the instance is legal
abbrev pub AreLegal : Instance → Sets → Type 0
AreLegal p s = (e : Element) → IsElement p e → (c : Choice) → Contains (s e) c → IsTrue (is_legal p e c)

-- ---- where a machine may hold something: on its host, and where it goes

-- its host, if it has one, is in the set
abbrev pub is_node_in : Option NodeId → Nodes → Bool
is_node_in None set = false
is_node_in (Some n) set = set n.0

abbrev pub hosted_in : State → Nodes → Bool
hosted_in state set = is_node_in (host_of state) set

-- the choice acts at a node of the set
abbrev pub goes_in : Choice → Nodes → Bool
goes_in Idle set = false
goes_in (Act Nowhere start) set = false
goes_in (Act (At n) start) set = set n.0
