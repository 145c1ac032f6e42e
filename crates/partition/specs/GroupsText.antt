-- The groups that bytes have for a cluster, or their first fault.
use Rattle.std.specs.Prelude.{◌≡◌, ℕ, ◌<◌, ◌||◌, List, [], ◌∷◌, ◌++◌, length, map, nat_le, nat_lt, not, false, Option, Some, None, Ok, codes, IsTrue}
use Rattle.std.specs.List.{list_any}
use Rattle.std.specs.Option.{ok_or, option_and_then}
use Rattle.json_walk.specs.Prelude.{as_walk, each, fault_at, field_by, item_path, json_of, list_of, only_keys, root, text_of, wants, ◌>>=◌, ◌>>◌}
use Rattle.json_walk.specs.Texts.{kind_text}
use Rattle.catalogue.specs.Prelude.{element_named, has_node, Inventory, is_name, max_groups, no_nodes, with_node}
use Rattle.json_walk.specs.declared.fault.FaultKind.TheVariants.{OutOfRange}
use Rattle.json_walk.specs.Json.{max_text_bytes}
use Rattle.cluster.specs.declared.ids.Element.{Element}
use Rattle.cluster.specs.declared.ids.Element.TheVariants.{Vm, Node}
use Rattle.cluster.specs.declared.ids.NodeId.{NodeId}
use Rattle.cluster.specs.declared.sets.NodeSet.{NodeSet}
use Rattle.serde_json.specs.Data.{Data}
use Rattle.parts.specs.Groups.{in_group}
use Rattle.partition.specs.declared.groups_fault.GroupsFault.{GroupsFault}
use Rattle.partition.specs.declared.groups_fault.GroupsFault.TheVariants.{TooLong, NotJson, Field, NoSuch, Twice, Limit, Memory}
use Rattle.partition.specs.declared.reading.TheConstants.{GROUPS_KEYS}
use Rattle.partition.specs.GroupsWalk.{Walk, Test}

-- only a node is one
abbrev pub as_node : Element → Option NodeId
as_node (Vm v) = None
as_node (Node n) = Some n

-- the listed node that has the name
unfoldable pub listed_node : Inventory → Test NodeId
listed_node k d path = do
  name ← as_walk Field (text_of d path)
  wants (is_name name) (Field (fault_at path OutOfRange))
  ok_or (option_and_then as_node (element_named k name)) (NoSuch path)

-- one more node of a group, which stood neither there nor in a group before
unfoldable pub node_step : Inventory → List NodeSet → List ℕ → ℕ → NodeSet → Data → Walk NodeSet
node_step k groups path place group d = do
  n ← listed_node k d (item_path path place)
  wants (not (has_node group n.0 || list_any (λ other. has_node other n.0) groups)) (Twice (item_path path place))
  Ok (with_node group n.0)

-- one more group
unfoldable pub group_step : Inventory → List ℕ → ℕ → List NodeSet → Data → Walk (List NodeSet)
group_step k path place groups d = do
  values ← as_walk Field (list_of d (item_path path place))
  group ← each (node_step k groups (item_path path place)) 0 no_nodes values
  Ok (groups ++ group ∷ [])

-- lists of nodes, at least one
unfoldable pub groups_from : Inventory → Test (List NodeSet)
groups_from k d path = do
  values ← as_walk Field (list_of d path)
  wants (nat_lt 0 (length values)) (Field (fault_at path OutOfRange))
  wants (nat_le (length values) max_groups) (Limit path)
  each (group_step k path) 0 [] values

unfoldable pub walk : Inventory → Data → Walk (List NodeSet)
walk k d = do
  groups ← field_by Field (groups_from k) d root (codes "groups")
  only_keys Field (map (λ key. key.now) GROUPS_KEYS) d root
  Ok groups

unfoldable pub groups_of : Inventory → List ℕ → Walk (List NodeSet)
groups_of k bytes = do
  wants (nat_le (length bytes) max_text_bytes) TooLong
  d ← ok_or (json_of bytes) NotJson
  walk k d

-- ---- how a fault is printed: the path, where there is one, and what is wrong

unfoldable pub fault_text : GroupsFault → List ℕ
fault_text TooLong = codes "too long"
fault_text NotJson = codes "not json"
fault_text (Field f) = f.path ++ codes " " ++ kind_text f.kind
fault_text (NoSuch p) = p ++ codes " " ++ codes "no such name"
fault_text (Twice p) = p ++ codes " " ++ codes "twice"
fault_text (Limit p) = p ++ codes " " ++ codes "over limit"
fault_text Memory = codes "out of memory"

-- ---- helping only: groups that share no node

-- the group has listed nodes alone, and none of the groups before
abbrev pub IsNew : ℕ → List NodeSet → NodeSet → Type 0
IsNew count groups group = (n : ℕ) → IsTrue (has_node group n) → (n < count) × (list_any (λ other. has_node other n) groups ≡ false)

pub record AreApart (count : ℕ) (groups : List NodeSet) : Type 0 where
  pub listed : (i n : ℕ) → IsTrue (in_group groups i n) → n < count
  pub apart : (i j n : ℕ) → IsTrue (in_group groups i n) → IsTrue (in_group groups j n) → i ≡ j
