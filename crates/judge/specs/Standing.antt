-- Loads that fit, and machines on usable nodes.
use Rattle.std.specs.Prelude.{◌≡◌, ℕ, ◌<◌, ◌≤◌, Bool, false, List, length, slice_index_or, IsTrue}
use Rattle.placement_rules.specs.Prelude.{capacity_of, Instance, load, machine_count, node_count, one, Snapshot, stands_on}

-- ---- loads

-- a load of each node for each resource
abbrev pub Loads : Type 0
Loads = ℕ → ℕ → ℕ

-- the loads of a snapshot
abbrev pub loads_of : Instance → Snapshot → Loads
loads_of p s n r = load p s r (one n)

-- the loads of a node are within its capacities
abbrev pub NodeFits : Instance → Loads → ℕ → Type 0
NodeFits p loads n = (r : ℕ) → r < length p.resources → loads n r ≤ capacity_of p n r

-- so are those of the first k nodes
abbrev pub LoadsFit : Instance → Loads → ℕ → Type 0
LoadsFit p loads k = (n : ℕ) → n < k → NodeFits p loads n

-- the first resource whose load exceeds the capacity of a node
pub record IsFirstIn (p : Instance) (loads : Loads) (n r : ℕ) : Type 0 where
  pub in_range : r < length p.resources
  pub over : capacity_of p n r < loads n r
  pub earlier : (q : ℕ) → q < r → loads n q ≤ capacity_of p n q

-- the first node with such a resource, and the first such resource there
pub record IsFirstOver (p : Instance) (loads : Loads) (n r : ℕ) : Type 0 where
  pub in_range : n < node_count p
  pub here : IsFirstIn p loads n r
  pub earlier : LoadsFit p loads n

-- ---- usable nodes

-- the table tells which nodes are usable
abbrev pub AreUsableNodes : Instance → Snapshot → List Bool → Type 0
AreUsableNodes p s table = (n : ℕ) → n < node_count p → slice_index_or table n false ≡ s.usable n

-- where the machine is present, or has its image, on one of the first k nodes, that node is usable
abbrev pub StandsBelow : Snapshot → ℕ → ℕ → Type 0
StandsBelow s v k = (n : ℕ) → n < k → IsTrue (stands_on s v n) → IsTrue (s.usable n)

-- the machine stands on usable nodes alone
abbrev pub StandsUsably : Instance → Snapshot → ℕ → Type 0
StandsUsably p s v = StandsBelow s v (node_count p)

-- so do the first k machines
abbrev pub AreUsable : Instance → Snapshot → ℕ → Type 0
AreUsable p s k = (v : ℕ) → v < k → StandsUsably p s v

-- the first node where the machine stands that is not usable
pub record IsFirstOff (p : Instance) (s : Snapshot) (v n : ℕ) : Type 0 where
  pub in_range : n < node_count p
  pub stands : IsTrue (stands_on s v n)
  pub off : s.usable n ≡ false
  pub earlier : StandsBelow s v n

-- the first machine that stands on such a node, and the first such node
pub record IsFirstAway (p : Instance) (s : Snapshot) (v n : ℕ) : Type 0 where
  pub in_range : v < machine_count p
  pub here : IsFirstOff p s v n
  pub earlier : AreUsable p s v

-- ---- both

-- all loads fit, and all machines stand on usable nodes
pub record Stands (p : Instance) (s : Snapshot) : Type 0 where
  pub loads : LoadsFit p (loads_of p s) (node_count p)
  pub usables : AreUsable p s (machine_count p)
