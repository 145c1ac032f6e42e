-- Helping only: a generated problem as it is built up.
use Rattle.std.specs.Prelude.{◌≡◌, ℕ, ◌+◌, ◌≤◌, List, [], ◌∷◌, length, map, codes}
use Rattle.instance_json.specs.Prelude.{Instance, Inventory, kinds, max_constraints}
use Rattle.instance_make.specs.Generated.{node_total, machine_total, from, generated_duration, generated_node, generated_machine}

abbrev pub generated_resources : List (List ℕ)
generated_resources = codes "cpu" ∷ codes "mem" ∷ []

-- the first nodes
unfoldable pub nodes_to : ℕ → Inventory
nodes_to n = record { resources = generated_resources; durations = map generated_duration kinds; nodes = map generated_node (from 0 n); machines = [] }

-- all nodes, and the first machines
unfoldable pub machines_to : ℕ → ℕ → Inventory
machines_to seed n = record { resources = generated_resources; durations = map generated_duration kinds; nodes = map generated_node (from 0 node_total); machines = map (generated_machine seed) (from 0 n) }

-- the cluster is as large as a generated one, and there is room for so many more constraints
pub record HasRoom (p : Instance) (count : ℕ) : Type 0 where
  pub nodes : length p.nodes ≡ node_total
  pub machines : length p.machines ≡ machine_total
  pub room : length p.constraints + count ≤ max_constraints
