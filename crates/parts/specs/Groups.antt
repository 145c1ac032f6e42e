-- Groups of nodes, and the group of each machine.
use Rattle.std.specs.Prelude.{◌≡◌, ℕ, ◌<◌, Bool, true, false, not, ◌&&◌, ◌||◌, List, length, Option, Some, None, unwrap_or, slice_get, slice_index_or, filter_map, if◌then◌else◌, IsTrue}
use Rattle.std.specs.List.{find, list_all, list_any, range_with_len}
use Rattle.cluster.specs.declared.ids.NodeId.{NodeId}
use Rattle.cluster.specs.declared.sets.NodeSet.{NodeSet}
use Rattle.cluster.specs.States.{host_of}
use Rattle.catalogue.specs.Prelude.{has_node, Instance, is_member, no_nodes}
use Rattle.catalogue.specs.declared.targets.Target.TheVariants.{Online as ToOnline, Offline as ToOffline, Running as ToRunning, Sleeping as ToSleeping, Ready as ToReady, Killed as ToKilled}
use Rattle.catalogue.specs.declared.targets.Wish.{Wish}
use Rattle.catalogue.specs.declared.targets.Wish.TheVariants.{Keep, To, Clash}
use Rattle.slices.specs.Actions.{wanted_state}
use Rattle.slices.specs.Elements.{node_count, state_of}
use Rattle.slices.specs.Forms.{Form, Apart, Allowed, Together, Ordered, InTurn, Bounded, Powered, Settled, Outside, Within, OnHost, form_of}
use Rattle.slices.specs.Stages.{Nodes}

-- ---- groups of nodes

-- the nodes of the group of a number
abbrev pub in_group : List NodeSet → ℕ → Nodes
in_group groups i n = has_node (slice_index_or groups i no_nodes) n

-- there is a group; each has listed nodes alone; no node is in two
pub record AreGroups (p : Instance) (groups : List NodeSet) : Type 0 where
  pub some : 0 < length groups
  pub listed : (i n : ℕ) → IsTrue (in_group groups i n) → n < node_count p
  pub apart : (i j n : ℕ) → IsTrue (in_group groups i n) → IsTrue (in_group groups j n) → i ≡ j

-- the first group that passes a test
abbrev pub first_group : List NodeSet → (ℕ → Bool) → Option ℕ
first_group groups test = find test (range_with_len 0 (length groups))

-- the group of a node
abbrev pub node_group : List NodeSet → ℕ → Option ℕ
node_group groups n = first_group groups (λ i. in_group groups i n)

-- ---- sets of nodes

-- the set has a node of the group
abbrev pub has_some : Instance → List NodeSet → ℕ → NodeSet → Bool
has_some p groups i set = list_any (λ n. has_node set n && in_group groups i n) (range_with_len 0 (node_count p))

-- all nodes of the set are nodes of the group
abbrev pub is_inside : Instance → List NodeSet → ℕ → NodeSet → Bool
is_inside p groups i set = list_all (λ n. not (has_node set n) || in_group groups i n) (range_with_len 0 (node_count p))

-- the one group whose nodes the set has, if there is just one
abbrev pub only_group : Instance → List NodeSet → NodeSet → Option ℕ
only_group p groups set = first_group groups (λ i. has_some p groups i set && is_inside p groups i set)

-- ---- the group of a machine

-- the group to which a form ties a machine: a fence that has it does, where its nodes are all of one group
abbrev pub tie : Instance → List NodeSet → ℕ → Form → Option ℕ
tie p groups v (Allowed vs (Within ns)) = if is_member vs v then only_group p groups ns else None
tie p groups v (Allowed vs (Outside ns)) = None
tie p groups v (Allowed vs OnHost) = None
tie p groups v (Apart separation) = None
tie p groups v (Together vs choices) = None
tie p groups v (Ordered before after) = None
tie p groups v (InTurn vs) = None
tie p groups v (Bounded weight ns amount) = None
tie p groups v (Powered ns amount) = None
tie p groups v Settled = None

-- the first group to which a constraint ties a machine
abbrev pub tied_group : Instance → List NodeSet → ℕ → Option ℕ
tied_group p groups v = slice_get (filter_map (λ c. tie p groups v (form_of c)) p.constraints) 0

-- a machine is wanted running at the end
abbrev pub is_to_run : Wish → Bool
is_to_run Keep = false
is_to_run (To ToOnline) = false
is_to_run (To ToOffline) = false
is_to_run (To ToRunning) = true
is_to_run (To ToSleeping) = false
is_to_run (To ToReady) = false
is_to_run (To ToKilled) = false
is_to_run Clash = false

-- with a host the group of the host; else, where the machine is wanted running, the one to which it is tied; else the first
abbrev pub group_by : Instance → List NodeSet → ℕ → Option NodeId → ℕ
group_by p groups v (Some host) = unwrap_or (node_group groups host.0) 0
group_by p groups v None = if is_to_run (wanted_state p v) then unwrap_or (tied_group p groups v) 0 else 0

-- the group of a machine
unfoldable pub machine_group : Instance → List NodeSet → ℕ → ℕ
machine_group p groups v = group_by p groups v (host_of (state_of p v))
