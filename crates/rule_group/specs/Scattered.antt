-- Helping only: a member that surely is where it goes or was, outside each group that has neither.
use Rattle.std.specs.Prelude.{◌≡◌, ◌≢◌, ℕ, ◌<◌, false, not, Option, None, Some, IsTrue}
use Rattle.rule_constraint.specs.Prelude.{AreLeaves, in_part, Instance, node_count, NodeId, Nodes, Sets, Snapshot, state_of, sure, Vm, VmId}
use Rattle.relax.specs.Prelude.{keeping, Part}
use Rattle.cluster.specs.declared.choices.Place.{Place}
use Rattle.cluster.specs.declared.choices.Place.TheVariants.{At, Nowhere}
use Rattle.cluster.specs.declared.states.State.TheVariants.{Running}
use Rattle.standings.specs.declared.leaves.Leaves.{Leaves}
use Rattle.rule_group.specs.declared.spots.Spots.{Spots}

-- the set does not have the node, if there is one
abbrev pub LacksSpot : Nodes → Option NodeId → Type 0
LacksSpot set None = Unit {0}
LacksSpot set (Some n) = set n.0 ≡ false

-- the machine is on a node outside each set that has neither of two nodes
pub record StandsAt (s : Snapshot) (v : ℕ) (x : Spots) : Type 0 where
  pub outside : (set : Nodes) → LacksSpot set x.host → LacksSpot set x.place → IsTrue (s.present v (λ n. not (set n)))

-- the machine runs, and it is known how it leaves its host for another node, as which this one is listed
pub record MovesTo (p : Instance) (v : ℕ) (n : NodeId) : Type 0 where
  pub host : NodeId
  pub leaves : Leaves
  pub runs : state_of p v ≡ Running host
  pub same : host.0 ≡ leaves.host.0
  pub are : AreLeaves p v leaves
  pub low : n.0 < node_count p
  pub other : n.0 ≢ host.0

-- whatever a machine may do besides, under each choice of a part it stands at these nodes
pub record StandsUnder (p : Instance) (v : VmId) (part : Part) (t : ℕ) (x : Spots) : Type 0 where
  pub stands : (s : Sets) → StandsAt (sure p (keeping (Vm v) (in_part part) s) t) v.0 x

-- the place is a node of the instance other than the host, and the set does not have it
abbrev pub IsOut : Instance → NodeId → Nodes → Place → Type 0
IsOut p h set Nowhere = ⊥
IsOut p h set (At n) = (n.0 < node_count p) × (n.0 ≢ h.0) × (set n.0 ≡ false)
