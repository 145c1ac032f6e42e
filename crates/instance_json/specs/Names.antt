-- Names, and what they name.
use Rattle.std.specs.Prelude.{ℕ, List, [], ◌∷◌, ◌++◌, length, not, nat_le, Option, Some, None, Ok}
use Rattle.std.specs.List.{list_any, position}
use Rattle.std.specs.Option.{ok_or}
use Rattle.std.specs.Str.{bytes_eq}
use Rattle.json_walk.specs.Prelude.{as_walk, each, fault_at, item_path, list_of, text_of, wants, ◌>>=◌, ◌>>◌}
use Rattle.catalogue.specs.Prelude.{element_named, Inventory, is_name, is_taken, max_resources}
use Rattle.json_walk.specs.declared.fault.FaultKind.TheVariants.{OutOfRange}
use Rattle.cluster.specs.declared.ids.NodeId.{NodeId}
use Rattle.cluster.specs.declared.ids.VmId.{VmId}
use Rattle.cluster.specs.declared.ids.Element.{Element}
use Rattle.cluster.specs.declared.ids.Element.TheVariants.{Vm, Node as NodeElement}
use Rattle.serde_json.specs.Data.{Data}
use Rattle.instance_json.specs.declared.fault.InstanceFault.TheVariants.{Field, Twice, NoSuch, Limit}
use Rattle.instance_json.specs.Walk.{Walk, Test}

-- a text that is a well-formed name
unfoldable pub name_from : Test (List ℕ)
name_from d path = do
  text ← as_walk Field (text_of d path)
  wants (is_name text) (Field (fault_at path OutOfRange))
  Ok text

-- ---- names that are given

-- the name of one more element
unfoldable pub new_name_from : Inventory → Test (List ℕ)
new_name_from k d path = do
  name ← name_from d path
  wants (not (is_taken k name)) (Twice path)
  Ok name

-- the name of one more resource
unfoldable pub resource_step : List ℕ → ℕ → List (List ℕ) → Data → Walk (List (List ℕ))
resource_step path place resources d = do
  name ← name_from d (item_path path place)
  wants (not (list_any (bytes_eq name) resources)) (Twice (item_path path place))
  Ok (resources ++ name ∷ [])

-- the names of the resources, which differ
unfoldable pub resources_from : Test (List (List ℕ))
resources_from d path = do
  values ← as_walk Field (list_of d path)
  wants (nat_le (length values) max_resources) (Limit path)
  each (resource_step path) 0 [] values

-- ---- names that are used

-- an element that is a machine
abbrev pub as_machine : Option Element → Option VmId
as_machine None = None
as_machine (Some (Vm v)) = Some v
as_machine (Some (NodeElement n)) = None

-- an element that is a node
abbrev pub as_node : Option Element → Option NodeId
as_node None = None
as_node (Some (Vm v)) = None
as_node (Some (NodeElement n)) = Some n

-- the listed machine that has the name
unfoldable pub listed_machine : Inventory → Test VmId
listed_machine k d path = do
  name ← name_from d path
  ok_or (as_machine (element_named k name)) (NoSuch path)

-- the listed node that has the name
unfoldable pub listed_node : Inventory → Test NodeId
listed_node k d path = do
  name ← name_from d path
  ok_or (as_node (element_named k name)) (NoSuch path)

-- the place of the listed resource that has the name
unfoldable pub listed_resource : List (List ℕ) → Test ℕ
listed_resource resources d path = do
  name ← name_from d path
  ok_or (position (bytes_eq name) resources) (NoSuch path)
