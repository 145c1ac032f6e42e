-- No later than when each machine first starts at each node.
use Rattle.std.specs.Prelude.{◌≡◌, ℕ, ◌+◌, ◌*◌, ◌<◌, ◌≤◌, List, length, slice_index_or}
use Rattle.{std.specs.List.Contains, cluster.specs.declared.choices.Choice.Choice, cluster.specs.declared.choices.Choice.TheVariants.Idle, cluster.specs.declared.choices.Choice.TheVariants.Act, cluster.specs.declared.choices.Place.TheVariants.At}
use Rattle.relax.specs.Prelude.{Instance, machine_count, node_count, Sets, vm}

-- when a choice starts its action, 0 for Idle
abbrev pub start_count : Choice → ℕ
start_count Idle = 0
start_count (Act place start) = start

-- no choice starts at node n before this instant
pub record IsNoLater (cs : List Choice) (n first : ℕ) : Type 0 where
  pub each : (start : ℕ) → Contains cs (Act (At (record { 0 = n })) start) → first ≤ start

-- for each machine such an instant at node n
pub record AreFirstAt (p : Instance) (s : Sets) (n : ℕ) (xs : List ℕ) : Type 0 where
  pub count : length xs ≡ machine_count p
  pub each : (v : ℕ) → v < machine_count p → IsNoLater (s (vm v)) n (slice_index_or xs v 0)

-- where the one of machine v at node n stands in one list for all nodes
abbrev pub slot_of : ℕ → ℕ → ℕ → ℕ
slot_of machines n v = n * machines + v

-- for each node and each machine
pub record AreFirsts (p : Instance) (s : Sets) (xs : List ℕ) : Type 0 where
  pub count : length xs ≡ node_count p * machine_count p
  pub each : (n v : ℕ) → n < node_count p → v < machine_count p → IsNoLater (s (vm v)) n (slice_index_or xs (slot_of (machine_count p) n v) 0)
