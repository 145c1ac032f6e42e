-- Constraints as objects.
use Rattle.std.specs.Prelude.{ℕ, Bool, List, length, map, codes}
use Rattle.std.specs.List.{filter, range_with_len}
use Rattle.instance_json.specs.Prelude.{constraint_word, has_node, Inventory}
use Rattle.cluster.specs.declared.ids.VmId.{VmId}
use Rattle.cluster.specs.declared.sets.NodeSet.{NodeSet}
use Rattle.catalogue.specs.declared.constraint.Constraint.{Constraint}
use Rattle.catalogue.specs.declared.constraint.Constraint.TheVariants.{Spread, Ban, Fence, Gather, Lonely, Among, Split, Root, Precedence, Serialize, Preserve, ResourceCapacity, RunningCapacity, MaxOnline, Overbook, Online, Offline, Running, Sleeping, Ready, Killed}
use Rattle.serde_json.specs.Data.{Data, boolean, string, number, unsigned, array, object, Members, no_members, member}
use Rattle.serde_json.specs.View.{items_of}
use Rattle.instance_make.specs.Elements.{machine_name, node_name, resource_name}

-- ---- lists

abbrev pub list_data : List Data → Data
list_data ds = array (items_of ds)

-- machines keep their order
unfoldable pub machines_list : Inventory → List VmId → Data
machines_list k vs = list_data (map (machine_name k) vs)

unfoldable pub parts_list : Inventory → List (List VmId) → Data
parts_list k parts = list_data (map (machines_list k) parts)

-- the nodes of a set, in their order
unfoldable pub nodes_in : Inventory → NodeSet → List ℕ
nodes_in k s = filter (has_node s) (range_with_len 0 (length k.nodes))

abbrev pub node_name_at : Inventory → ℕ → Data
node_name_at k n = node_name k (record { 0 = n })

unfoldable pub nodes_list : Inventory → NodeSet → Data
nodes_list k s = list_data (map (node_name_at k) (nodes_in k s))

unfoldable pub groups_list : Inventory → List NodeSet → Data
groups_list k groups = list_data (map (nodes_list k) groups)

-- ---- members

abbrev pub kind_member : List ℕ → Members → Members
kind_member word rest = member (codes "kind") (string word) rest

abbrev pub continuous_member : Bool → Members → Members
continuous_member continuous rest = member (codes "continuous") (boolean continuous) rest

abbrev pub machines_member : Inventory → List VmId → Members → Members
machines_member k vs rest = member (codes "machines") (machines_list k vs) rest

abbrev pub nodes_member : Inventory → NodeSet → Members → Members
nodes_member k s rest = member (codes "nodes") (nodes_list k s) rest

abbrev pub resource_member : Inventory → ℕ → Members → Members
resource_member k r rest = member (codes "resource") (resource_name k.resources r) rest

abbrev pub amount_member : ℕ → Members → Members
amount_member amount rest = member (codes "amount") (number (unsigned amount)) rest

-- ---- objects, by the word of their kind: the keys ascend

-- root, serialize, running, sleeping, ready, killed
unfoldable pub machines_object : Inventory → List ℕ → List VmId → Data
machines_object k word vs = object (kind_member word (machines_member k vs no_members))

-- spread, gather, lonely
unfoldable pub flagged_machines_object : Inventory → List ℕ → List VmId → Bool → Data
flagged_machines_object k word vs continuous = object (continuous_member continuous (kind_member word (machines_member k vs no_members)))

-- ban, fence
unfoldable pub both_object : Inventory → List ℕ → List VmId → NodeSet → Bool → Data
both_object k word vs s continuous = object (continuous_member continuous (kind_member word (machines_member k vs (nodes_member k s no_members))))

unfoldable pub among_object : Inventory → List ℕ → List VmId → List NodeSet → Bool → Data
among_object k word vs groups continuous =
    object (continuous_member continuous (member (codes "groups") (groups_list k groups) (kind_member word (machines_member k vs no_members))))

unfoldable pub split_object : Inventory → List ℕ → List (List VmId) → Bool → Data
split_object k word parts continuous = object (continuous_member continuous (kind_member word (member (codes "parts") (parts_list k parts) no_members)))

unfoldable pub precedence_object : Inventory → List ℕ → VmId → VmId → Data
precedence_object k word before after =
    object (member (codes "after") (machine_name k after) (member (codes "before") (machine_name k before) (kind_member word no_members)))

unfoldable pub preserve_object : Inventory → List ℕ → List VmId → ℕ → ℕ → Data
preserve_object k word vs r amount = object (amount_member amount (kind_member word (machines_member k vs (resource_member k r no_members))))

unfoldable pub resource_capacity_object : Inventory → List ℕ → NodeSet → ℕ → ℕ → Bool → Data
resource_capacity_object k word s r amount continuous =
    object (amount_member amount (continuous_member continuous (kind_member word (nodes_member k s (resource_member k r no_members)))))

-- runningCapacity, maxOnline
unfoldable pub node_count_object : Inventory → List ℕ → NodeSet → ℕ → Bool → Data
node_count_object k word s amount continuous = object (amount_member amount (continuous_member continuous (kind_member word (nodes_member k s no_members))))

unfoldable pub overbook_object : Inventory → List ℕ → NodeSet → ℕ → ℕ → ℕ → Data
overbook_object k word s r num den =
    object (member (codes "den") (number (unsigned den)) (kind_member word (nodes_member k s (member (codes "num") (number (unsigned num)) (resource_member k r no_members)))))

-- online, offline
unfoldable pub nodes_object : Inventory → List ℕ → NodeSet → Data
nodes_object k word s = object (kind_member word (nodes_member k s no_members))

-- ---- constraints

-- a constraint, under the word of its kind
abbrev pub object_by : Inventory → List ℕ → Constraint → Data
object_by k word (Spread vs b) = flagged_machines_object k word vs b
object_by k word (Ban vs s b) = both_object k word vs s b
object_by k word (Fence vs s b) = both_object k word vs s b
object_by k word (Gather vs b) = flagged_machines_object k word vs b
object_by k word (Lonely vs b) = flagged_machines_object k word vs b
object_by k word (Among vs groups b) = among_object k word vs groups b
object_by k word (Split parts b) = split_object k word parts b
object_by k word (Root vs) = machines_object k word vs
object_by k word (Precedence before after) = precedence_object k word before after
object_by k word (Serialize vs) = machines_object k word vs
object_by k word (Preserve vs r amount) = preserve_object k word vs r amount
object_by k word (ResourceCapacity s r amount b) = resource_capacity_object k word s r amount b
object_by k word (RunningCapacity s amount b) = node_count_object k word s amount b
object_by k word (MaxOnline s amount b) = node_count_object k word s amount b
object_by k word (Overbook s r num den) = overbook_object k word s r num den
object_by k word (Online s) = nodes_object k word s
object_by k word (Offline s) = nodes_object k word s
object_by k word (Running vs) = machines_object k word vs
object_by k word (Sleeping vs) = machines_object k word vs
object_by k word (Ready vs) = machines_object k word vs
object_by k word (Killed vs) = machines_object k word vs

unfoldable pub constraint_data : Inventory → Constraint → Data
constraint_data k c = object_by k (constraint_word c) c
