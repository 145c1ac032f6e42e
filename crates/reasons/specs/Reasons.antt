-- The ten reasons that refute a region, as conditions on what is sure in it.
use Rattle.std.specs.Prelude.{filter, All, IsSomeAnd, ◌≡◌, ◌≢◌, ℕ, ◌<◌, ◌≤◌, ◌||◌, ◌==◌, false, not, List, [], length, IsTrue, Option, slice_get, if◌then◌else◌}
use Rattle.slices.specs.Prelude.{Allowed, Apart, Between, Bounded, Each, ForbidsPair, ForbidsPlace, Form, form_of, FromOthers, group_sets, has_node, Instance, InTurn, is_continuous, IsElement, IsMember, IsWithin, load, machine_count, node_count, Nodes, one, Ordered, Powered, powered_nodes, room, Separation, Settled, Snapshot, stands_on, sum_to, Together, total}
use Rattle.cluster.specs.declared.ids.VmId.{VmId}
use Rattle.cluster.specs.declared.sets.NodeSet.{NodeSet}
use Rattle.catalogue.specs.declared.constraint.Constraint.{Constraint}
use Rattle.slices.specs.declared.stage.Progress.TheVariants.{Started, Unended, Acting}
use Rattle.domains.specs.Sets.{Sets}
use Rattle.reasons.specs.declared.reason.Reason.{Reason}
use Rattle.reasons.specs.declared.reason.Reason.TheVariants.{Empty, Bound, Load, Pair, Place, Group, SetLoad, Power, Usable, Hall}
use Rattle.reasons.specs.Sure.{sure, least_cost}

-- ---- what is broken in a snapshot

-- the uses of a resource on the nodes of a set exceed the capacities of those that are usable
abbrev pub IsOverload : Instance → Snapshot → ℕ → Nodes → Type 0
IsOverload p s r set = room p s r set < load p s r set

-- two machines that the constraint keeps apart are on one node
pub record IsPair (p : Instance) (s : Snapshot) (c : Constraint) (v w n : ℕ) : Type 0 where
  pub forbidden : ForbidsPair c v w
  pub differ : v ≢ w
  pub first : IsTrue (s.present v (one n))
  pub second : IsTrue (s.present w (one n))

-- a machine is on a node where the constraint lets it not be
pub record IsPlace (p : Instance) (s : Snapshot) (c : Constraint) (v n : ℕ) : Type 0 where
  pub forbidden : ForbidsPlace p c v n
  pub present : IsTrue (s.present v (one n))

-- a member is present on a node outside the set
abbrev pub HasOutside : Snapshot → List VmId → Nodes → Type 0
HasOutside s vs set = (v : ℕ) × IsMember vs v × IsTrue (s.present v (λ n. not (set n)))

-- there is a group, and for each of them a member is present outside it
pub record AreScattered (s : Snapshot) (vs : List VmId) (groups : List Nodes) : Type 0 where
  pub some : groups ≢ []
  pub each : All (HasOutside s vs) groups

-- two different members act
pub record AreBothActing (s : Snapshot) (vs : List VmId) : Type 0 where
  pub v : ℕ
  pub w : ℕ
  pub differ : v ≢ w
  pub first_member : IsMember vs v
  pub second_member : IsMember vs w
  pub first : IsTrue (s.action v Acting)
  pub second : IsTrue (s.action w Acting)

-- no group has all members; the second has started and the first is unended; two members act
abbrev pub BreaksGroup : Instance → Snapshot → Form → Type 0
BreaksGroup p s (Apart separation) = ⊥
BreaksGroup p s (Allowed vs places) = ⊥
BreaksGroup p s (Together vs groups) = AreScattered s vs (group_sets p groups)
BreaksGroup p s (Ordered before after) = IsTrue (s.action after.0 Started) × IsTrue (s.action before.0 Unended)
BreaksGroup p s (InTurn vs) = AreBothActing s vs
BreaksGroup p s (Bounded weight ns amount) = ⊥
BreaksGroup p s (Powered ns amount) = ⊥
BreaksGroup p s Settled = ⊥

-- what machines hold on the nodes of the set exceeds the amount
abbrev pub ExceedsAmount : Instance → Snapshot → Form → Type 0
ExceedsAmount p s (Apart separation) = ⊥
ExceedsAmount p s (Allowed vs places) = ⊥
ExceedsAmount p s (Together vs groups) = ⊥
ExceedsAmount p s (Ordered before after) = ⊥
ExceedsAmount p s (InTurn vs) = ⊥
ExceedsAmount p s (Bounded weight ns amount) = amount < total p s weight (has_node ns)
ExceedsAmount p s (Powered ns amount) = ⊥
ExceedsAmount p s Settled = ⊥

-- more nodes of the set are powered than the amount
abbrev pub ExceedsPower : Instance → Snapshot → Form → Type 0
ExceedsPower p s (Apart separation) = ⊥
ExceedsPower p s (Allowed vs places) = ⊥
ExceedsPower p s (Together vs groups) = ⊥
ExceedsPower p s (Ordered before after) = ⊥
ExceedsPower p s (InTurn vs) = ⊥
ExceedsPower p s (Bounded weight ns amount) = ⊥
ExceedsPower p s (Powered ns amount) = amount < powered_nodes p s (has_node ns)
ExceedsPower p s Settled = ⊥

-- and so of a constraint of that form
abbrev pub IsGroup : Instance → Snapshot → Constraint → Type 0
IsGroup p s c = BreaksGroup p s (form_of c)

abbrev pub IsSetLoad : Instance → Snapshot → Constraint → Type 0
IsSetLoad p s c = ExceedsAmount p s (form_of c)

abbrev pub IsPower : Instance → Snapshot → Constraint → Type 0
IsPower p s c = ExceedsPower p s (form_of c)

-- a machine is present on a node, or has its image there, and the node is not usable
pub record IsUnusable (s : Snapshot) (v n : ℕ) : Type 0 where
  pub stands : IsTrue (stands_on s v n)
  pub unusable : s.usable n ≡ false

-- how many nodes of the instance a set has
abbrev pub nodes_in : Instance → Nodes → ℕ
nodes_in p set = sum_to (node_count p) (λ n. if set n then 1 else 0)

-- more members, each kept apart from each other one, are on nodes of a set than it has nodes
abbrev pub ExceedsSeparated : Instance → Snapshot → Nodes → Separation → Type 0
ExceedsSeparated p s set (Each vs) = nodes_in p set < length (filter (λ v. s.present v.0 set) vs)
ExceedsSeparated p s set (Between parts) = ⊥
ExceedsSeparated p s set (FromOthers vs) = ⊥

abbrev pub ExceedsNodes : Instance → Snapshot → Nodes → Form → Type 0
ExceedsNodes p s set (Apart separation) = ExceedsSeparated p s set separation
ExceedsNodes p s set (Allowed vs places) = ⊥
ExceedsNodes p s set (Together vs groups) = ⊥
ExceedsNodes p s set (Ordered before after) = ⊥
ExceedsNodes p s set (InTurn vs) = ⊥
ExceedsNodes p s set (Bounded weight ns amount) = ⊥
ExceedsNodes p s set (Powered ns amount) = ⊥
ExceedsNodes p s set Settled = ⊥

abbrev pub IsHall : Instance → Snapshot → Nodes → Constraint → Type 0
IsHall p s set c = ExceedsNodes p s set (form_of c)

-- ---- what reasons refute

-- the constraint of a number is there, applies, and passes a test
abbrev pub Applies : Instance → ℕ → ℕ → (Constraint → Type 0) → Type 0
Applies p c t breaks = IsSomeAnd (slice_get p.constraints c) (λ k. IsTrue (is_continuous k || (t == p.horizon)) × breaks k)

-- the nodes of a set are listed, and there is one unless the instance has no node
pub record AreListed (p : Instance) (set : NodeSet) : Type 0 where
  pub within : IsWithin set (node_count p)
  pub some : 0 < node_count p → (n : ℕ) × IsTrue (has_node set n)

-- all that a reason names is there, and its instant is at most the horizon
abbrev pub IsNamed : Instance → Reason → Type 0
IsNamed p (Empty e) = IsElement p e
IsNamed p Bound = Unit {0}
IsNamed p (Load t r set) = (t ≤ p.horizon) × (r < length p.resources) × AreListed p set
IsNamed p (Pair c t v w n) = (c < length p.constraints) × (t ≤ p.horizon) × (v.0 < machine_count p) × (w.0 < machine_count p) × (n.0 < node_count p)
IsNamed p (Place c t v n) = (c < length p.constraints) × (t ≤ p.horizon) × (v.0 < machine_count p) × (n.0 < node_count p)
IsNamed p (Group c t) = (c < length p.constraints) × (t ≤ p.horizon)
IsNamed p (SetLoad c t) = (c < length p.constraints) × (t ≤ p.horizon)
IsNamed p (Power c t) = (c < length p.constraints) × (t ≤ p.horizon)
IsNamed p (Usable t v n) = (t ≤ p.horizon) × (v.0 < machine_count p) × (n.0 < node_count p)
IsNamed p (Hall c t set) = (c < length p.constraints) × (t ≤ p.horizon) × AreListed p set

-- what each reason says of the sets of choices, where a plan of a cost is handed in, or none
abbrev pub Says : Instance → Option ℕ → Sets → Reason → Type 0
Says p bound s (Empty e) = s e ≡ []
Says p bound s Bound = IsSomeAnd bound (λ cost. cost ≤ least_cost p s)
Says p bound s (Load t r set) = IsOverload p (sure p s t) r (has_node set)
Says p bound s (Pair c t v w n) = Applies p c t (λ k. IsPair p (sure p s t) k v.0 w.0 n.0)
Says p bound s (Place c t v n) = Applies p c t (λ k. IsPlace p (sure p s t) k v.0 n.0)
Says p bound s (Group c t) = Applies p c t (IsGroup p (sure p s t))
Says p bound s (SetLoad c t) = Applies p c t (IsSetLoad p (sure p s t))
Says p bound s (Power c t) = Applies p c t (IsPower p (sure p s t))
Says p bound s (Usable t v n) = IsUnusable (sure p s t) v.0 n.0
Says p bound s (Hall c t set) = Applies p c t (IsHall p (sure p s t) (has_node set))

-- the reason refutes the sets of choices
pub record Refutes (p : Instance) (bound : Option ℕ) (s : Sets) (reason : Reason) : Type 0 where
  pub named : IsNamed p reason
  pub says : Says p bound s reason
