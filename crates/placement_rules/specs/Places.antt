-- Where single machines are allowed, and where machines are present.
use Rattle.std.specs.Prelude.{◌≡◌, ℕ, ◌<◌, false, List, IsTrue}
use Rattle.slices.specs.Prelude.{has_node, Instance, IsMember, IsOffLimits, node_count, one, Places, Snapshot}
use Rattle.cluster.specs.declared.ids.VmId.{VmId}
use Rattle.cluster.specs.declared.sets.NodeSet.{NodeSet}

-- the machine is present on no node that is off limits for it
abbrev pub IsAllowed : Instance → Snapshot → Places → ℕ → Type 0
IsAllowed p s places v = (n : ℕ) → n < node_count p → IsOffLimits p places v n → s.present v (one n) ≡ false

-- the set has the nodes on which machines of the list are present, and no other
pub record AreReached (s : Snapshot) (vs : List VmId) (set : NodeSet) : Type 0 where
  pub there : (v n : ℕ) → IsMember vs v → IsTrue (s.present v (one n)) → IsTrue (has_node set n)
  pub known : (n : ℕ) → IsTrue (has_node set n) → (v : ℕ) × IsMember vs v × IsTrue (s.present v (one n))
