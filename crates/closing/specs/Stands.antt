-- Where machines surely are, and where they are under an end of their choices.
use Rattle.std.specs.Prelude.{◌≡◌, ◌≢◌, ℕ, ◌<◌, Bool, true, false, ◌||◌, ◌==◌, List, [], Option, Some, None, IsTrue, slice_index_or}
use Rattle.relax.specs.Prelude.{Instance, IsEnd, IsGroup, IsMember, IsOffLimits, machine_count, node_count, Nodes, one, Places, present_at, Sets, setting, Snapshot, sure, vm}
use Rattle.cluster.specs.declared.{choices.Choice.Choice, ids.NodeId.NodeId, ids.VmId.VmId}
use Rattle.catalogue.specs.declared.constraint.Constraint.{Constraint}
use Rattle.closing.specs.{Parts.FailAtEnds, declared.shared.stands.Stands.Stands, declared.shared.stands.Stands.TheVariants.Everywhere, declared.shared.stands.Stands.TheVariants.On}

abbrev pub is_node : Option NodeId → ℕ → Bool
is_node None n = false
is_node (Some m) n = n == m.0

-- the nodes on which a machine stands
abbrev pub has_node_of : Stands → ℕ → Bool
has_node_of Everywhere n = true
has_node_of (On a b) n = is_node a n || is_node b n

abbrev pub IsWithin : ℕ → Option NodeId → Type 0
IsWithin nodes None = Unit {0}
IsWithin nodes (Some n) = n.0 < nodes

abbrev pub AreWithin : ℕ → Stands → Type 0
AreWithin nodes Everywhere = Unit {0}
AreWithin nodes (On a b) = IsWithin nodes a × IsWithin nodes b

-- under the choice a machine is on a node of the set
abbrev pub IsOn : Instance → ℕ → Nodes → ℕ → Choice → Type 0
IsOn p v set t c = (n : ℕ) × (n < node_count p) × IsTrue (set n) × IsTrue (present_at p v (one n) t c)

-- under the choice it is where it may not be
abbrev pub IsMisplaced : Instance → Places → ℕ → ℕ → Choice → Type 0
IsMisplaced p places v t c = (n : ℕ) × (n < node_count p) × IsOffLimits p places v n × IsTrue (present_at p v (one n) t c)

-- a machine is where it may not be
abbrev pub IsPlacedBadly : Instance → Places → ℕ → Snapshot → Type 0
IsPlacedBadly p places v s = (n : ℕ) × (n < node_count p) × IsOffLimits p places v n × IsTrue (s.present v (one n))

-- two different machines are on one node
abbrev pub ShareNode : Instance → ℕ → ℕ → Snapshot → Type 0
ShareNode p v w s = (v ≢ w) × (n : ℕ) × (n < node_count p) × IsTrue (s.present v (one n)) × IsTrue (s.present w (one n))

-- machine w has a choice, and is under no end of its choices on a node where v surely is
pub record StaysClear (p : Instance) (s : Sets) (t v w : ℕ) : Type 0 where
  pub some : (c : Choice) × IsEnd (s (vm w)) c
  pub ends : FailAtEnds (IsOn p w (λ n. (sure p s t).present v (one n)) t) (s (vm w))

-- so it is for each machine of one list and each other machine of another one
pub record AreApart (p : Instance) (s : Sets) (t : ℕ) (vs ws : List VmId) : Type 0 where
  pub each : (v w : ℕ) → IsMember vs v → IsMember ws w → v ≢ w → StaysClear p s t v w

-- a machine of a list meets a condition
abbrev pub IsAnyOf : List VmId → (ℕ → Snapshot → Type 0) → Snapshot → Type 0
IsAnyOf vs met s = (v : ℕ) × IsMember vs v × met v s

-- a machine is on one node with a machine of another part than that of a number
abbrev pub MeetsOtherPart : Instance → List (List VmId) → ℕ → ℕ → Snapshot → Type 0
MeetsOtherPart p parts i v s = (j : ℕ) × (i ≢ j) × IsAnyOf (slice_index_or parts j []) (ShareNode p v) s

-- a machine is on one node with a machine of the instance that is not one of those that pass a test
abbrev pub MeetsStranger : Instance → (ℕ → Bool) → ℕ → Snapshot → Type 0
MeetsStranger p members v s = (w : ℕ) × (w < machine_count p) × (members w ≡ false) × ShareNode p v w s

-- with a machine set to the choice, the condition of a constraint on whole groups is met
abbrev pub IsGroupWith : Instance → Sets → Constraint → ℕ → ℕ → Choice → Type 0
IsGroupWith p s k t v c = IsGroup p (sure p (setting (vm v) c s) t) k
