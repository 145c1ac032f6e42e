-- Helping only: on which nodes a machine may be under a choice, whenever a constraint is due.
use Rattle.std.specs.Prelude.{◌≡◌, ℕ, Bool, ◌≤◌, ◌&&◌, ◌||◌, ◌==◌, nat_lt, Option, None, Some, IsTrue}
use Rattle.rule_constraint.specs.Prelude.{has_come, hosted_in, Instance, leave_of, NodeId, Nodes, one, state_of}
use Rattle.cluster.specs.declared.choices.Choice.{Choice}
use Rattle.cluster.specs.declared.choices.Choice.TheVariants.{Act}
use Rattle.cluster.specs.declared.choices.Place.{Place}
use Rattle.rule_group.specs.declared.spots.Spots.{Spots}

-- what is to hold always, or at the horizon alone, is to hold at the instant
abbrev pub IsDue : Instance → Bool → ℕ → Type 0
IsDue p always t = (t ≤ p.horizon) × IsTrue (always || (t == p.horizon))

-- the node, if there is one, is that of the number; it is in the set, if there is one
abbrev pub IsSpot : Option NodeId → ℕ → Type 0
IsSpot None n = ⊥
IsSpot (Some m) n = m.0 ≡ n

abbrev pub IsSpotIn : Nodes → Option NodeId → Type 0
IsSpotIn set None = Unit {0}
IsSpotIn set (Some n) = IsTrue (set n.0)

-- whenever the constraint is due, a machine under the choice is still at its host only where that is told
pub record HasHost (p : Instance) (always : Bool) (v : ℕ) (c : Choice) (host : Option NodeId) : Type 0 where
  pub each : (n t : ℕ) → IsDue p always t → IsTrue (hosted_in (state_of p v) (one n) && nat_lt t (leave_of p v c)) → IsSpot host n

-- an action there comes to no other node
pub record IsPlaceSpot (place : Place) (spot : Option NodeId) : Type 0 where
  pub each : (n t s : ℕ) → IsTrue (has_come n t (Act place s)) → IsSpot spot n

-- so a machine under the choice is nowhere but at its host and at the place
pub record AreSpots (p : Instance) (always : Bool) (v : ℕ) (c : Choice) (x : Spots) : Type 0 where
  pub host : HasHost p always v c x.host
  pub place : (n t : ℕ) → IsTrue (has_come n t c) → IsSpot x.place n

-- the set has both
pub record HasSpots (set : Nodes) (x : Spots) : Type 0 where
  pub host : IsSpotIn set x.host
  pub place : IsSpotIn set x.place
