-- Nodes and machines.
use Rattle.std.specs.Prelude.{ℕ, ◌-◌, List, [], ◌∷◌, ◌++◌, length, map, replicate, true, nat_le, Ok, codes}
use Rattle.std.specs.List.{list_any, list_all}
use Rattle.std.specs.Str.{bytes_eq}
use Rattle.json_walk.specs.Prelude.{as_walk, each, field_by, item_path, keys_of, list_of, map_walk, object_of, only_keys, optional_by, optional_flag, optional_number, wants, word_field, ◌>>=◌, ◌>>◌}
use Rattle.catalogue.specs.Prelude.{Inventory, is_online, max_amount, max_machines, max_nodes, max_resources, state_words}
use Rattle.cluster.specs.declared.ids.NodeId.{NodeId}
use Rattle.cluster.specs.declared.states.State.{State}
use Rattle.cluster.specs.declared.states.State.TheVariants.{Init, Ready, Running, Sleeping, Gone}
use Rattle.cluster.specs.declared.nodes.Node.{Node}
use Rattle.cluster.specs.declared.machines.Machine.{Machine}
use Rattle.serde_json.specs.Data.{Data}
use Rattle.instance_json.specs.declared.fault.InstanceFault.TheVariants.{Field, NoSuch, BadHost, Limit}
use Rattle.instance_json.specs.declared.durations.Owner.TheVariants as owners
use Rattle.instance_json.specs.declared.keys.TheConstants.{NODE_KEYS, MACHINE_KEYS, HOSTED_KEYS}
use Rattle.instance_json.specs.declared.states.StateWord.{StateWord}
use Rattle.instance_json.specs.declared.states.StateWord.TheVariants as state_word
use Rattle.instance_json.specs.declared.states.TheConstants.{STATES}
use Rattle.instance_json.specs.Walk.{Walk, Test}
use Rattle.instance_json.specs.Names.{new_name_from, listed_node}
use Rattle.instance_json.specs.Durations.{own_durations}

-- ---- amounts

-- an amount of each resource, 0 where none is given, and 0 at the places past the resources
unfoldable pub resource_amounts : List (List ℕ) → Test (List ℕ)
resource_amounts resources d path = do
  amounts ← map_walk (optional_number Field max_amount d path) resources
  Ok (amounts ++ replicate (max_resources - length resources) 0)

-- an object of amounts, whose keys are resources
unfoldable pub amounts_from : List (List ℕ) → Test (List ℕ)
amounts_from resources d path = do
  members ← as_walk Field (object_of d path)
  amounts ← resource_amounts resources d path
  wants (list_all (λ key. list_any (bytes_eq key) resources) (keys_of members)) (NoSuch path)
  Ok amounts

-- a member with amounts
abbrev pub amounts_in : List (List ℕ) → Data → List ℕ → List ℕ → Walk (List ℕ)
amounts_in resources d path key = optional_by (replicate max_resources 0) (amounts_from resources) d path key

-- ---- nodes

-- a node, online where nothing else is said
unfoldable pub node_from : Inventory → Test Node
node_from k d path = do
  name ← field_by Field (new_name_from k) d path (codes "name")
  online ← optional_flag Field true d path (codes "online")
  capacity ← amounts_in k.resources d path (codes "capacity")
  own ← own_durations k.resources owners.Node d path
  only_keys Field (map (λ key. key.now) NODE_KEYS) d path
  Ok (record { name = name; online = online; capacity = capacity; own = own })

-- one more node
unfoldable pub node_step : List ℕ → ℕ → Inventory → Data → Walk Inventory
node_step path place k d = do
  node ← node_from k d (item_path path place)
  Ok (record k { nodes = k.nodes ++ node ∷ [] })

-- the nodes
unfoldable pub nodes_from : Inventory → Test Inventory
nodes_from k d path = do
  values ← as_walk Field (list_of d path)
  wants (nat_le (length values) max_nodes) (Limit path)
  each (node_step path) 0 k values

-- ---- machines

-- a listed node that is online
unfoldable pub host_from : Inventory → Test NodeId
host_from k d path = do
  n ← listed_node k d path
  wants (is_online k.nodes n.0) (BadHost path)
  Ok n

-- the state of a machine by its word: a running or a sleeping machine has a host
unfoldable pub state_by : Inventory → StateWord → Test State
state_by k state_word.Init d path = Ok Init
state_by k state_word.Ready d path = Ok Ready
state_by k state_word.Running d path = field_by Field (host_from k) d path (codes "node") >>= λ n. Ok (Running n)
state_by k state_word.Sleeping d path = field_by Field (host_from k) d path (codes "node") >>= λ n. Ok (Sleeping n)
state_by k state_word.Gone d path = Ok Gone

unfoldable pub state_from : Inventory → Test State
state_from k d path = do
  word ← word_field Field state_words STATES d path (codes "state")
  state_by k word d path

-- only a machine that has a host names a node
abbrev pub machine_keys : State → List (List ℕ)
machine_keys (Running host) = map (λ key. key.now) HOSTED_KEYS
machine_keys (Sleeping host) = map (λ key. key.now) HOSTED_KEYS
machine_keys Init = map (λ key. key.now) MACHINE_KEYS
machine_keys Ready = map (λ key. key.now) MACHINE_KEYS
machine_keys Gone = map (λ key. key.now) MACHINE_KEYS

-- a machine
unfoldable pub machine_from : Inventory → Test Machine
machine_from k d path = do
  name ← field_by Field (new_name_from k) d path (codes "name")
  state ← state_from k d path
  usage ← amounts_in k.resources d path (codes "use")
  own ← own_durations k.resources owners.Machine d path
  only_keys Field (machine_keys state) d path
  Ok (record { name = name; state = state; usage = usage; own = own })

-- one more machine
unfoldable pub machine_step : List ℕ → ℕ → Inventory → Data → Walk Inventory
machine_step path place k d = do
  machine ← machine_from k d (item_path path place)
  Ok (record k { machines = k.machines ++ machine ∷ [] })

-- the machines
unfoldable pub machines_from : Inventory → Test Inventory
machines_from k d path = do
  values ← as_walk Field (list_of d path)
  wants (nat_le (length values) max_machines) (Limit path)
  each (machine_step path) 0 k values
