-- Machines that never have less than at present.
use Rattle.std.specs.Prelude.{◌≡◌, ◌⊎◌, ℕ, ◌<◌, ◌≤◌, Some}
use Rattle.std.specs.List.{Contains}
use Rattle.load_bounds.specs.Words.{all_nodes, base, held_at, Instance, kind_of, machine_count, node_count, Sets, vm, Choice, Idle, At, NodeId, Amount, Allocate, Migrate}
use Rattle.cluster.specs.declared.choices.Place.{Place}

-- under each of its choices machine v has on all nodes together, at all times, at least what it has at present
pub record HoldsOn (p : Instance) (s : Sets) (v : ℕ) : Type 0 where
  pub each : (r t : ℕ) (c : Choice) → Contains (s (vm v)) c → base p v (Amount r) ≤ held_at p v (Amount r) (all_nodes p) t c

-- so it is of each machine that may stay as it is
pub record StayersHoldOn (p : Instance) (s : Sets) : Type 0 where
  pub each : (v : ℕ) → v < machine_count p → Contains (s (vm v)) Idle → HoldsOn p s v

-- the action of a machine at a place is a move to a node of the problem, or an allocation
pub record GoesOn (p : Instance) (v : ℕ) (place : Place) : Type 0 where
  pub node : (n : NodeId) × (n.0 < node_count p) × (place ≡ At n)
  pub kind : (kind_of p (vm v) place ≡ Some Migrate) ⊎ (kind_of p (vm v) place ≡ Some Allocate)
