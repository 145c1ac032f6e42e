-- Helping only: members that are told to be together.
use Rattle.std.specs.Prelude.{◌≡◌, ◌≢◌, ℕ, ◌<◌, Bool, false, not, [], List, length, slice_index_or, IsTrue, None, Some}
use Rattle.std.specs.List.{Contains}
use Rattle.rule_constraint.specs.Prelude.{has_node, Instance, IsEnd, IsMember, node_count, NodeId, Nodes, NodeSet, one, present_at, Sets, vm, VmId}
use Rattle.cluster.specs.Sets.{no_nodes}
use Rattle.slices.specs.Prelude.{AnyNode, AnyOf, Groups}
use Rattle.cluster.specs.declared.choices.Choice.{Choice}
use Rattle.rule_group.specs.declared.spots.Spots.{Spots}
use Rattle.rule_group.specs.Spots.{HasSpots, IsDue}

-- the nodes of the group of a number, and how many groups there are
abbrev pub group_nodes : Groups → ℕ → Nodes
group_nodes AnyNode i = one i
group_nodes (AnyOf groups) i = has_node (slice_index_or groups i no_nodes)

abbrev pub group_count : Instance → Groups → ℕ
group_count p AnyNode = node_count p
group_count p (AnyOf groups) = length groups

-- the group of a number is among some, and has these nodes
pub record IsServed (p : Instance) (groups : Groups) (among : NodeSet) (x : Spots) (i : ℕ) : Type 0 where
  pub listed : IsTrue (has_node among i)
  pub count : i < group_count p groups
  pub has : HasSpots (group_nodes groups i) x

-- one of the groups among some has the node
pub record IsHad (p : Instance) (groups : Groups) (among : NodeSet) (n : ℕ) : Type 0 where
  pub group : ℕ
  pub listed : IsTrue (has_node among group)
  pub count : group < group_count p groups
  pub has : IsTrue (group_nodes groups group n)

-- so it is of each of these nodes
pub record AreNodesOf (p : Instance) (groups : Groups) (among nodes : NodeSet) : Type 0 where
  pub each : (n : ℕ) → IsTrue (has_node nodes n) → IsHad p groups among n

-- a machine may be on one node alone, which is one of these
pub record IsAtOne (nodes : NodeSet) (x : Spots) : Type 0 where
  pub node : NodeId
  pub host : x.host ≡ None
  pub place : x.place ≡ Some node
  pub listed : IsTrue (has_node nodes node.0)

-- under the choice machine v is on no node outside the set, whenever the constraint is due
pub record IsInside (p : Instance) (always : Bool) (v : ℕ) (set : Nodes) (c : Choice) : Type 0 where
  pub inside : (t : ℕ) → IsDue p always t → present_at p v (λ n. not (set n)) t c ≡ false

-- so it is under one of these choices
pub record MayBeIn (p : Instance) (cs : List Choice) (always : Bool) (v : ℕ) (set : Nodes) : Type 0 where
  pub choice : Choice
  pub there : Contains cs choice
  pub inside : IsInside p always v set choice

-- the group of a number is among some, and machine v may be in it
pub record IsFound (p : Instance) (cs : List Choice) (always : Bool) (v : ℕ) (groups : Groups) (among : NodeSet) (i : ℕ) : Type 0 where
  pub listed : IsTrue (has_node among i)
  pub may : MayBeIn p cs always v (group_nodes groups i)

-- each member may be in each of these groups
pub record AreCommon (p : Instance) (s : Sets) (always : Bool) (groups : Groups) (vs : List VmId) (common : NodeSet) : Type 0 where
  pub count : (i : ℕ) → IsTrue (has_node common i) → i < group_count p groups
  pub each : (i : ℕ) → IsTrue (has_node common i) → (v : ℕ) → IsMember vs v → MayBeIn p (s (vm v)) always v (group_nodes groups i)

-- under the choice machine v is inside one of them
pub record FitsAt (p : Instance) (always : Bool) (groups : Groups) (common : NodeSet) (v : ℕ) (c : Choice) : Type 0 where
  pub group : ℕ
  pub listed : IsTrue (has_node common group)
  pub inside : IsInside p always v (group_nodes groups group) c

-- it has a choice, and is so under each end of its choices
pub record FitsMember (p : Instance) (s : Sets) (always : Bool) (groups : Groups) (common : NodeSet) (v : ℕ) : Type 0 where
  pub some : s (vm v) ≢ []
  pub ends : (c : Choice) → IsEnd (s (vm v)) c → FitsAt p always groups common v c
