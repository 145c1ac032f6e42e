-- Helping only: where members surely are.
use Rattle.std.specs.Prelude.{◌≢◌, ◌<◌, List, IsTrue}
use Rattle.relax.specs.Prelude.{At, Instance, IsMember, node_count, NodeId, Nodes, Nowhere, one, Snapshot, VmId}
use Rattle.cluster.specs.declared.choices.Place.{Place}
use Rattle.quick_checks.specs.declared.scattered.Post.{Post}

-- the member is on the node
pub record IsPosted (s : Snapshot) (vs : List VmId) (x : Post) : Type 0 where
  pub member : IsMember vs x.machine.0
  pub there : IsTrue (s.present x.machine.0 (one x.node.0))

-- the place is a node of the set other than the host
abbrev pub GoesInto : Instance → NodeId → Nodes → Place → Type 0
GoesInto p h set Nowhere = ⊥
GoesInto p h set (At n) = (n.0 < node_count p) × (n.0 ≢ h.0) × IsTrue (set n.0)
