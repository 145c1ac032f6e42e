-- Lists of names, and lists of such lists.
use Rattle.std.specs.Prelude.{ℕ, List, [], ◌∷◌, ◌++◌, length, not, nat_lt, nat_le, Ok}
use Rattle.json_walk.specs.Prelude.{as_walk, each, fault_at, item_path, list_of, wants, ◌>>=◌, ◌>>◌}
use Rattle.catalogue.specs.Prelude.{all_of, has_node, Inventory, is_member, max_groups, max_parts, no_nodes, with_node}
use Rattle.json_walk.specs.declared.fault.FaultKind.TheVariants.{OutOfRange}
use Rattle.cluster.specs.declared.ids.VmId.{VmId}
use Rattle.cluster.specs.declared.sets.NodeSet.{NodeSet}
use Rattle.serde_json.specs.Data.{Data}
use Rattle.instance_json.specs.declared.fault.InstanceFault.TheVariants.{Field, Twice, Limit}
use Rattle.instance_json.specs.Walk.{Walk, Test}
use Rattle.instance_json.specs.Names.{listed_machine, listed_node}

-- ---- machines

-- One more machine. It is in no list before and not in this one so far; a name that stood before is
-- listed, so the order of the two tests does not matter.
unfoldable pub machine_item : Inventory → List VmId → List ℕ → ℕ → List VmId → Data → Walk (List VmId)
machine_item k before path place found d = do
  v ← listed_machine k d (item_path path place)
  wants (not (is_member (before ++ found) v.0)) (Twice (item_path path place))
  Ok (found ++ v ∷ [])

-- a list of machines that differ, also from those before
unfoldable pub machines_after : Inventory → List VmId → Test (List VmId)
machines_after k before d path = do
  values ← as_walk Field (list_of d path)
  each (machine_item k before path) 0 [] values

-- a list of machines that differ
abbrev pub machine_list : Inventory → Test (List VmId)
machine_list k = machines_after k []

-- one more list
unfoldable pub part_step : Inventory → List ℕ → ℕ → List (List VmId) → Data → Walk (List (List VmId))
part_step k path place parts d = do
  part ← machines_after k (all_of parts) d (item_path path place)
  Ok (parts ++ part ∷ [])

-- lists of machines, which differ over all lists
unfoldable pub parts_from : Inventory → Test (List (List VmId))
parts_from k d path = do
  values ← as_walk Field (list_of d path)
  wants (nat_le (length values) max_parts) (Limit path)
  each (part_step k path) 0 [] values

-- ---- nodes

-- One more node, which is not in the list so far; of its two tests the same holds.
unfoldable pub node_item : Inventory → List ℕ → ℕ → NodeSet → Data → Walk NodeSet
node_item k path place found d = do
  n ← listed_node k d (item_path path place)
  wants (not (has_node found n.0)) (Twice (item_path path place))
  Ok (with_node found n.0)

-- a list of nodes that differ
unfoldable pub node_set : Inventory → Test NodeSet
node_set k d path = do
  values ← as_walk Field (list_of d path)
  each (node_item k path) 0 no_nodes values

-- one more group
unfoldable pub group_step : Inventory → List ℕ → ℕ → List NodeSet → Data → Walk (List NodeSet)
group_step k path place groups d = do
  group ← node_set k d (item_path path place)
  Ok (groups ++ group ∷ [])

-- lists of nodes, at least one
unfoldable pub groups_from : Inventory → Test (List NodeSet)
groups_from k d path = do
  values ← as_walk Field (list_of d path)
  wants (nat_lt 0 (length values)) (Field (fault_at path OutOfRange))
  wants (nat_le (length values) max_groups) (Limit path)
  each (group_step k path) 0 [] values
