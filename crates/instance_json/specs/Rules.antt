-- Constraints.
use Rattle.std.specs.Prelude.{ℕ, Bool, false, not, ◌==◌, List, [], ◌∷◌, ◌++◌, length, map, nat_le, Ok, codes}
use Rattle.json_walk.specs.Prelude.{as_walk, each, field_by, item_path, key_path, list_of, number_field, only_keys, optional_flag, wants, word_field, ◌>>=◌, ◌>>◌}
use Rattle.catalogue.specs.Prelude.{constraint_words, Instance, Inventory, inventory_of, max_amount, max_constraints, max_scale}
use Rattle.cluster.specs.declared.ids.VmId.{VmId}
use Rattle.cluster.specs.declared.sets.NodeSet.{NodeSet}
use Rattle.catalogue.specs.declared.constraint.Constraint.{Constraint}
use Rattle.serde_json.specs.Data.{Data}
use Rattle.catalogue.specs.declared.constraint.Constraint.TheVariants as constraint
use Rattle.instance_json.specs.declared.constraint_kind.ConstraintKind.{ConstraintKind}
use Rattle.instance_json.specs.declared.constraint_kind.ConstraintKind.TheVariants.{Spread, Ban, Fence, Gather, Lonely, Among, Split, Root, Precedence, Serialize, Preserve, ResourceCapacity, RunningCapacity, MaxOnline, Overbook, Online, Offline, Running, Sleeping, Ready, Killed}
use Rattle.instance_json.specs.declared.constraint_kind.TheConstants.{CONSTRAINT_KINDS}
use Rattle.instance_json.specs.declared.fault.InstanceFault.TheVariants.{Field, Twice, Limit}
use Rattle.instance_json.specs.declared.keys.TheConstants.{MACHINES_KEYS, FLAGGED_MACHINES_KEYS, BOTH_KEYS, AMONG_KEYS, SPLIT_KEYS, PRECEDENCE_KEYS, PRESERVE_KEYS, RESOURCE_CAPACITY_KEYS, NODE_COUNT_KEYS, OVERBOOK_KEYS, NODES_KEYS}
use Rattle.instance_json.specs.Walk.{Walk, Test}
use Rattle.instance_json.specs.Names.{listed_machine, listed_resource}
use Rattle.instance_json.specs.Lists.{machine_list, parts_from, node_set, groups_from}

-- ---- fields of one kind

abbrev machines_field : Inventory → Test (List VmId)
machines_field k d path = field_by Field (machine_list k) d path (codes "machines")

abbrev nodes_field : Inventory → Test NodeSet
nodes_field k d path = field_by Field (node_set k) d path (codes "nodes")

abbrev resource_field : Inventory → Test ℕ
resource_field k d path = field_by Field (listed_resource k.resources) d path (codes "resource")

abbrev amount_field : Test ℕ
amount_field d path = number_field Field 0 max_amount d path (codes "amount")

abbrev continuous_flag : Test Bool
continuous_flag d path = optional_flag Field false d path (codes "continuous")

-- ---- the fields of a constraint, in their order

-- root, serialize, running, sleeping, ready, killed
unfoldable pub machines_fields : Inventory → Test (List VmId)
machines_fields k d path = do
  machines ← machines_field k d path
  only_keys Field (map (λ key. key.now) MACHINES_KEYS) d path
  Ok machines

-- spread, gather, lonely
unfoldable pub flagged_machines_fields : Inventory → Test (List VmId × Bool)
flagged_machines_fields k d path = do
  machines ← machines_field k d path
  continuous ← continuous_flag d path
  only_keys Field (map (λ key. key.now) FLAGGED_MACHINES_KEYS) d path
  Ok (machines, continuous)

-- ban, fence
unfoldable pub both_fields : Inventory → Test (List VmId × NodeSet × Bool)
both_fields k d path = do
  machines ← machines_field k d path
  nodes ← nodes_field k d path
  continuous ← continuous_flag d path
  only_keys Field (map (λ key. key.now) BOTH_KEYS) d path
  Ok (machines, nodes, continuous)

unfoldable pub among_from : Inventory → Test Constraint
among_from k d path = do
  machines ← machines_field k d path
  groups ← field_by Field (groups_from k) d path (codes "groups")
  continuous ← continuous_flag d path
  only_keys Field (map (λ key. key.now) AMONG_KEYS) d path
  Ok (constraint.Among machines groups continuous)

unfoldable pub split_from : Inventory → Test Constraint
split_from k d path = do
  parts ← field_by Field (parts_from k) d path (codes "parts")
  continuous ← continuous_flag d path
  only_keys Field (map (λ key. key.now) SPLIT_KEYS) d path
  Ok (constraint.Split parts continuous)

-- the first machine's action before that of another one
unfoldable pub precedence_from : Inventory → Test Constraint
precedence_from k d path = do
  before ← field_by Field (listed_machine k) d path (codes "before")
  after ← field_by Field (listed_machine k) d path (codes "after")
  wants (not (before.0 == after.0)) (Twice (key_path path (codes "after")))
  only_keys Field (map (λ key. key.now) PRECEDENCE_KEYS) d path
  Ok (constraint.Precedence before after)

unfoldable pub preserve_from : Inventory → Test Constraint
preserve_from k d path = do
  machines ← machines_field k d path
  resource ← resource_field k d path
  amount ← amount_field d path
  only_keys Field (map (λ key. key.now) PRESERVE_KEYS) d path
  Ok (constraint.Preserve machines resource amount)

unfoldable pub resource_capacity_from : Inventory → Test Constraint
resource_capacity_from k d path = do
  nodes ← nodes_field k d path
  resource ← resource_field k d path
  amount ← amount_field d path
  continuous ← continuous_flag d path
  only_keys Field (map (λ key. key.now) RESOURCE_CAPACITY_KEYS) d path
  Ok (constraint.ResourceCapacity nodes resource amount continuous)

-- runningCapacity, maxOnline
unfoldable pub node_count_fields : Inventory → Test (NodeSet × ℕ × Bool)
node_count_fields k d path = do
  nodes ← nodes_field k d path
  amount ← amount_field d path
  continuous ← continuous_flag d path
  only_keys Field (map (λ key. key.now) NODE_COUNT_KEYS) d path
  Ok (nodes, amount, continuous)

unfoldable pub overbook_from : Inventory → Test Constraint
overbook_from k d path = do
  nodes ← nodes_field k d path
  resource ← resource_field k d path
  num ← number_field Field 0 max_scale d path (codes "num")
  den ← number_field Field 1 max_scale d path (codes "den")
  only_keys Field (map (λ key. key.now) OVERBOOK_KEYS) d path
  Ok (constraint.Overbook nodes resource num den)

-- online, offline
unfoldable pub nodes_fields : Inventory → Test NodeSet
nodes_fields k d path = do
  nodes ← nodes_field k d path
  only_keys Field (map (λ key. key.now) NODES_KEYS) d path
  Ok nodes

-- ---- constraints

-- a constraint of that kind
unfoldable pub constraint_by : Inventory → ConstraintKind → Test Constraint
constraint_by k Spread d path = flagged_machines_fields k d path >>= λ x. Ok (constraint.Spread x.0 x.1)
constraint_by k Ban d path = both_fields k d path >>= λ x. Ok (constraint.Ban x.0 x.1 x.2)
constraint_by k Fence d path = both_fields k d path >>= λ x. Ok (constraint.Fence x.0 x.1 x.2)
constraint_by k Gather d path = flagged_machines_fields k d path >>= λ x. Ok (constraint.Gather x.0 x.1)
constraint_by k Lonely d path = flagged_machines_fields k d path >>= λ x. Ok (constraint.Lonely x.0 x.1)
constraint_by k Among d path = among_from k d path
constraint_by k Split d path = split_from k d path
constraint_by k Root d path = machines_fields k d path >>= λ vs. Ok (constraint.Root vs)
constraint_by k Precedence d path = precedence_from k d path
constraint_by k Serialize d path = machines_fields k d path >>= λ vs. Ok (constraint.Serialize vs)
constraint_by k Preserve d path = preserve_from k d path
constraint_by k ResourceCapacity d path = resource_capacity_from k d path
constraint_by k RunningCapacity d path = node_count_fields k d path >>= λ x. Ok (constraint.RunningCapacity x.0 x.1 x.2)
constraint_by k MaxOnline d path = node_count_fields k d path >>= λ x. Ok (constraint.MaxOnline x.0 x.1 x.2)
constraint_by k Overbook d path = overbook_from k d path
constraint_by k Online d path = nodes_fields k d path >>= λ ns. Ok (constraint.Online ns)
constraint_by k Offline d path = nodes_fields k d path >>= λ ns. Ok (constraint.Offline ns)
constraint_by k Running d path = machines_fields k d path >>= λ vs. Ok (constraint.Running vs)
constraint_by k Sleeping d path = machines_fields k d path >>= λ vs. Ok (constraint.Sleeping vs)
constraint_by k Ready d path = machines_fields k d path >>= λ vs. Ok (constraint.Ready vs)
constraint_by k Killed d path = machines_fields k d path >>= λ vs. Ok (constraint.Killed vs)

-- a constraint
unfoldable pub constraint_from : Inventory → Test Constraint
constraint_from k d path = do
  kind ← word_field Field constraint_words CONSTRAINT_KINDS d path (codes "kind")
  constraint_by k kind d path

-- one more constraint
unfoldable pub constraint_step : List ℕ → ℕ → Instance → Data → Walk Instance
constraint_step path place p d = do
  c ← constraint_from (inventory_of p) d (item_path path place)
  Ok (record p { constraints = p.constraints ++ c ∷ [] })

-- at most 4,096 constraints
unfoldable pub constraints_from : Instance → Test Instance
constraints_from p d path = do
  values ← as_walk Field (list_of d path)
  wants (nat_le (length values) max_constraints) (Limit path)
  each (constraint_step path) 0 p values
