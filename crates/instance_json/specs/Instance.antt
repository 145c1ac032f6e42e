-- The instance that bytes have, or their first fault.
use Rattle.std.specs.Prelude.{ℕ, List, [], length, map, nat_le, Ok, codes}
use Rattle.std.specs.Option.{ok_or}
use Rattle.json_walk.specs.Prelude.{field_by, json_of, number_field, only_keys, root, wants, ◌>>=◌, ◌>>◌}
use Rattle.catalogue.specs.Prelude.{Instance, Inventory, max_horizon}
use Rattle.json_walk.specs.Json.{max_text_bytes}
use Rattle.serde_json.specs.Data.{Data}
use Rattle.instance_json.specs.declared.keys.TheConstants.{ROOT_KEYS}
use Rattle.instance_json.specs.declared.fault.InstanceFault.TheVariants.{Field, TooLong, NotJson}
use Rattle.instance_json.specs.Walk.{Walk, Test}
use Rattle.instance_json.specs.Names.{resources_from}
use Rattle.instance_json.specs.Durations.{base_durations}
use Rattle.instance_json.specs.Elements.{nodes_from, machines_from}
use Rattle.instance_json.specs.Rules.{constraints_from}

-- what there is before any node and machine
unfoldable pub base_from : Test Inventory
base_from d path = do
  resources ← field_by Field resources_from d path (codes "resources")
  durations ← base_durations resources d path
  Ok (record { resources = resources; durations = durations; nodes = []; machines = [] })

-- what there is
unfoldable pub inventory_from : Test Inventory
inventory_from d path = do
  base ← base_from d path
  with_nodes ← field_by Field (nodes_from base) d path (codes "nodes")
  field_by Field (machines_from with_nodes) d path (codes "machines")

-- a problem without constraints
abbrev pub without_constraints : Inventory → ℕ → Instance
without_constraints k horizon = record { resources = k.resources; durations = k.durations; nodes = k.nodes; machines = k.machines; horizon = horizon; constraints = [] }

-- the members of the root, in their order
unfoldable pub problem_from : Test Instance
problem_from d path = do
  horizon ← number_field Field 0 max_horizon d path (codes "horizon")
  inventory ← inventory_from d path
  field_by Field (constraints_from (without_constraints inventory horizon)) d path (codes "constraints")

-- the members, and then no other key
unfoldable pub walk : Data → Walk Instance
walk d = do
  p ← problem_from d root
  only_keys Field (map (λ key. key.now) ROOT_KEYS) d root
  Ok p

-- not too many bytes, which are JSON, and its walk
unfoldable pub instance_of : List ℕ → Walk Instance
instance_of bytes = do
  wants (nat_le (length bytes) max_text_bytes) TooLong
  d ← ok_or (json_of bytes) NotJson
  walk d
