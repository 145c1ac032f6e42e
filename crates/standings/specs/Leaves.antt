-- Helping only: how a machine leaves its host that runs, by the one kind of action by which it goes to another node.
use Rattle.std.specs.Prelude.{◌≡◌, ◌≢◌, ℕ, ◌+◌, ◌<◌, ◌≤◌}
use Rattle.relax.specs.Prelude.{Instance, max_action, node_count}
use Rattle.{cluster.specs.declared.choices.Choice.TheVariants.Act, cluster.specs.declared.choices.Place.TheVariants.At, cluster.specs.declared.ids.NodeId.NodeId, standings.specs.Standings.leave_of, standings.specs.declared.leaves.Leaves.Leaves}

-- machine v keeps its host for so long after each start at another node of the problem
pub record AreLeaves (p : Instance) (v : ℕ) (x : Leaves) : Type 0 where
  pub small : x.lasts ≤ max_action
  pub each : (n : NodeId) (start : ℕ) → n.0 < node_count p → n.0 ≢ x.host.0 → leave_of p v (Act (At n) start) ≡ start + x.lasts
