-- Helping only: what is cut down to a part, by tables of the group of each node and machine and of its number there.
use Rattle.std.specs.Prelude.{ℕ, Bool, true, ◌&&◌, ◌==◌, length, nat_lt, List, [], Option, Some, None, Vec, fold, map, filter, filter_map, option_map, slice_get, slice_index_or, if◌then◌else◌}
use Rattle.std.specs.List.{range_with_len}
use Rattle.std.specs.declared.alloc.Global.{Global}
use Rattle.cluster.specs.declared.ids.VmId.{VmId}
use Rattle.cluster.specs.declared.machines.Machine.{Machine}
use Rattle.cluster.specs.declared.nodes.Node.{Node}
use Rattle.cluster.specs.declared.sets.NodeSet.{NodeSet}
use Rattle.catalogue.specs.Prelude.{has_node, Instance, max_nodes, no_nodes, with_node}
use Rattle.catalogue.specs.declared.constraint.Constraint.{Constraint}
use Rattle.catalogue.specs.declared.constraint.Constraint.TheVariants.{Spread, Ban, Fence, Gather, Lonely, Among, Split, Root, Precedence, Serialize, Preserve, ResourceCapacity, RunningCapacity, MaxOnline, Overbook, Online, Offline, Running as WantedRunning, Sleeping as WantedSleeping, Ready as WantedReady, Killed}
use Rattle.slices.specs.Forms.{Form, form_of}
use Rattle.parts.specs.Cuts.{renumbered_state}
use Rattle.parts.specs.Splits.{is_joint}
use Rattle.partition.specs.declared.faults.Division.{Division}
use Rattle.partition.specs.declared.numbering.Numbers.{Numbers}
use Rattle.partition.specs.Reach.{at, first_of, form_reach}

-- ---- lists

-- a machine with its number in the table
abbrev pub numbered : List ℕ → VmId → VmId
numbered numbers v = record { 0 = at numbers v.0 }

-- the machines of a list that are in the group
abbrev pub machines_by : List ℕ → List ℕ → ℕ → List VmId → List VmId
machines_by groups numbers i vs = map (numbered numbers) (filter (λ v. at groups v.0 == i) vs)

-- a set with one more node, where it has room for it
abbrev pub with_one : NodeSet → ℕ → NodeSet
with_one set n = if nat_lt n max_nodes then with_node set n else set

-- with the number of a node, if the node is in the set and in the group
abbrev pub cut_node : List ℕ → List ℕ → ℕ → NodeSet → NodeSet → ℕ → NodeSet
cut_node groups numbers i set cut n = if has_node set n && (at groups n == i) then with_one cut (at numbers n) else cut

-- the nodes of a set that are in the group
abbrev pub nodes_by : List ℕ → List ℕ → ℕ → NodeSet → NodeSet
nodes_by groups numbers i set = fold (cut_node groups numbers i set) no_nodes (range_with_len 0 (length groups))

-- ---- constraints

-- a constraint with what a list of machines, a set and a single machine become
abbrev pub with_lists : (List VmId → List VmId) → (NodeSet → NodeSet) → (VmId → VmId) → Constraint → Constraint
with_lists list set one (Spread vs b) = Spread (list vs) b
with_lists list set one (Ban vs ns b) = Ban (list vs) (set ns) b
with_lists list set one (Fence vs ns b) = Fence (list vs) (set ns) b
with_lists list set one (Gather vs b) = Gather (list vs) b
with_lists list set one (Lonely vs b) = Lonely (list vs) b
with_lists list set one (Among vs sets b) = Among (list vs) (map set sets) b
with_lists list set one (Split parts b) = Split (map list parts) b
with_lists list set one (Root vs) = Root (list vs)
with_lists list set one (Precedence before after) = Precedence (one before) (one after)
with_lists list set one (Serialize vs) = Serialize (list vs)
with_lists list set one (Preserve vs r amount) = Preserve (list vs) r amount
with_lists list set one (ResourceCapacity ns r amount b) = ResourceCapacity (set ns) r amount b
with_lists list set one (RunningCapacity ns amount b) = RunningCapacity (set ns) amount b
with_lists list set one (MaxOnline ns amount b) = MaxOnline (set ns) amount b
with_lists list set one (Overbook ns r num den) = Overbook (set ns) r num den
with_lists list set one (Online ns) = Online (set ns)
with_lists list set one (Offline ns) = Offline (set ns)
with_lists list set one (WantedRunning vs) = WantedRunning (list vs)
with_lists list set one (WantedSleeping vs) = WantedSleeping (list vs)
with_lists list set one (WantedReady vs) = WantedReady (list vs)
with_lists list set one (Killed vs) = Killed (list vs)

-- a constraint cut down to the part of a number
abbrev pub cut_by : Division → Numbers → ℕ → Constraint → Constraint
cut_by d numbers i c =
    with_lists (machines_by d.machines.items numbers.machines.items i) (nodes_by d.nodes.items numbers.nodes.items i) (numbered numbers.machines.items) c

-- the first part that a joint form names
abbrev pub home_by : Division → Form → Option ℕ
home_by d f = if is_joint f then Some (first_of (form_reach d.machines.items d.nodes.items f)) else None

-- a constraint with no home is in each part
abbrev pub is_home : ℕ → Option ℕ → Bool
is_home i None = true
is_home i (Some h) = h == i

abbrev pub has_by : Division → ℕ → Form → Bool
has_by d i f = is_home i (home_by d f)

abbrev pub constraints_by : Division → Numbers → ℕ → List Constraint → List Constraint
constraints_by d numbers i cs = map (cut_by d numbers i) (filter (λ c. has_by d i (form_of c)) cs)

-- ---- constraints that speak of each machine and node by itself

-- the machines that such a one lists
abbrev pub listed_machines : Constraint → List VmId
listed_machines (Spread vs b) = []
listed_machines (Ban vs ns b) = vs
listed_machines (Fence vs ns b) = vs
listed_machines (Gather vs b) = []
listed_machines (Lonely vs b) = []
listed_machines (Among vs sets b) = []
listed_machines (Split parts b) = []
listed_machines (Root vs) = vs
listed_machines (Precedence before after) = []
listed_machines (Serialize vs) = []
listed_machines (Preserve vs r amount) = vs
listed_machines (ResourceCapacity ns r amount b) = []
listed_machines (RunningCapacity ns amount b) = []
listed_machines (MaxOnline ns amount b) = []
listed_machines (Overbook ns r num den) = []
listed_machines (Online ns) = []
listed_machines (Offline ns) = []
listed_machines (WantedRunning vs) = vs
listed_machines (WantedSleeping vs) = vs
listed_machines (WantedReady vs) = vs
listed_machines (Killed vs) = vs

-- and its nodes
abbrev pub listed_nodes : Constraint → NodeSet
listed_nodes (Spread vs b) = no_nodes
listed_nodes (Ban vs ns b) = ns
listed_nodes (Fence vs ns b) = ns
listed_nodes (Gather vs b) = no_nodes
listed_nodes (Lonely vs b) = no_nodes
listed_nodes (Among vs sets b) = no_nodes
listed_nodes (Split parts b) = no_nodes
listed_nodes (Root vs) = no_nodes
listed_nodes (Precedence before after) = no_nodes
listed_nodes (Serialize vs) = no_nodes
listed_nodes (Preserve vs r amount) = no_nodes
listed_nodes (ResourceCapacity ns r amount b) = no_nodes
listed_nodes (RunningCapacity ns amount b) = no_nodes
listed_nodes (MaxOnline ns amount b) = no_nodes
listed_nodes (Overbook ns r num den) = ns
listed_nodes (Online ns) = ns
listed_nodes (Offline ns) = ns
listed_nodes (WantedRunning vs) = no_nodes
listed_nodes (WantedSleeping vs) = no_nodes
listed_nodes (WantedReady vs) = no_nodes
listed_nodes (Killed vs) = no_nodes

-- ---- nodes and machines

abbrev pub part_nodes : Division → ℕ → List Node → List Node
part_nodes d i nodes = filter_map (slice_get nodes) (filter (λ n. at d.nodes.items n == i) (range_with_len 0 (length nodes)))

-- with the number that its host has in the part
abbrev pub machine_by : List ℕ → Machine → Machine
machine_by numbers m = record m { state = renumbered_state (at numbers) m.state }

abbrev pub part_machines : Division → Numbers → ℕ → List Machine → List Machine
part_machines d numbers i machines =
    filter_map (λ v. option_map (machine_by numbers.nodes.items) (slice_get machines v)) (filter (λ v. at d.machines.items v == i) (range_with_len 0 (length machines)))

-- the part with these constraints
abbrev pub part_by : Instance → Division → Numbers → ℕ → List Constraint → Instance
part_by p d numbers i constraints = record {
  resources = p.resources;
  durations = p.durations;
  nodes = part_nodes d i p.nodes;
  machines = part_machines d numbers i p.machines;
  horizon = p.horizon;
  constraints = constraints;
}

-- the list of a number, of lists; past the last, an empty one
abbrev pub list_at : {A : Type 0} → List (Vec A Global) → ℕ → List A
list_at lists i = slice_index_or (map (λ l. l.items) lists) i []
