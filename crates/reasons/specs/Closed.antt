-- Closed regions: no standard reason refutes them with an element set to an end of its choices.
use Rattle.std.specs.Prelude.{◌≢◌, ◌⊎◌, ℕ, ◌<◌, ◌≤◌, Bool, ◌||◌, ◌==◌, nat_lt, List, [], length, IsTrue, slice_get}
use Rattle.std.specs.List.{Contains}
use Rattle.std.specs.Option.{ForSome}
use Rattle.slices.specs.Prelude.{Instance, is_continuous, IsElement, machine_count, node_count, Nodes, one, Snapshot}
use Rattle.cluster.specs.declared.choices.Choice.{Choice}
use Rattle.cluster.specs.declared.choices.Choice.TheVariants.{Idle, Act}
use Rattle.cluster.specs.declared.ids.Element.{Element}
use Rattle.catalogue.specs.declared.constraint.Constraint.{Constraint}
use Rattle.domains.specs.Sets.{Sets, setting}
use Rattle.reasons.specs.declared.reason.ReasonKind.{ReasonKind}
use Rattle.reasons.specs.declared.reason.ReasonKind.TheVariants.{Empty, Bound, Load, Pair, Place, Group, SetLoad, Power, Usable, Hall}
use Rattle.reasons.specs.Reasons.{IsOverload, IsPair, IsPlace, IsGroup, IsSetLoad, IsPower, IsUnusable}
use Rattle.reasons.specs.Sure.{sure}

-- all nodes of the instance
abbrev pub all_nodes : Instance → Nodes
all_nodes p n = nat_lt n (node_count p)

-- neither one node nor all together are overloaded
pub record AreLoadsFit (p : Instance) (s : Snapshot) (r : ℕ) : Type 0 where
  pub each : (n : ℕ) → n < node_count p → ¬ IsOverload p s r (one n)
  pub all : ¬ IsOverload p s r (all_nodes p)

-- no constraint that applies at the last instant, or at an earlier one, is broken
abbrev pub NoneBroken : Instance → Bool → (Constraint → Type 0) → Type 0
NoneBroken p last breaks = (c : ℕ) → ForSome (slice_get p.constraints c) (λ k. IsTrue (is_continuous k || last) → ¬ breaks k)

-- no standard reason of a kind: of the ten, empty, bound and hall are not standard
abbrev pub IsFree : Instance → Snapshot → Bool → ReasonKind → Type 0
IsFree p s last Empty = Unit {0}
IsFree p s last Bound = Unit {0}
IsFree p s last Load = (r : ℕ) → r < length p.resources → AreLoadsFit p s r
IsFree p s last Pair =
    NoneBroken p last (λ k. (v : ℕ) × (w : ℕ) × (n : ℕ) × (v < machine_count p) × (w < machine_count p) × (n < node_count p) × IsPair p s k v w n)
IsFree p s last Place = NoneBroken p last (λ k. (v : ℕ) × (n : ℕ) × (v < machine_count p) × (n < node_count p) × IsPlace p s k v n)
IsFree p s last Group = NoneBroken p last (IsGroup p s)
IsFree p s last SetLoad = NoneBroken p last (IsSetLoad p s)
IsFree p s last Power = NoneBroken p last (IsPower p s)
IsFree p s last Usable = (v n : ℕ) → v < machine_count p → n < node_count p → ¬ IsUnusable s v n
IsFree p s last Hall = Unit {0}

-- no standard reason refutes the sets of choices at any instant
unfoldable pub IsUnrefuted : Instance → Sets → Type 0
IsUnrefuted p s = (kind : ReasonKind) (t : ℕ) → t ≤ p.horizon → IsFree p (sure p s t) (t == p.horizon) kind

-- Idle if it is held, and the least and the greatest start of each place
abbrev pub IsEnd : List Choice → Choice → Type 0
IsEnd cs Idle = Contains cs Idle
IsEnd cs (Act place s) =
    Contains cs (Act place s) × (((u : ℕ) → Contains cs (Act place u) → s ≤ u) ⊎ ((u : ℕ) → Contains cs (Act place u) → u ≤ s))

-- each element of the instance has a choice
abbrev pub HaveChoices : Instance → Sets → Type 0
HaveChoices p s = (e : Element) → IsElement p e → s e ≢ []

-- each element has a choice, and with any one set to an end of its choices no standard reason refutes the region
pub record IsClosed (p : Instance) (s : Sets) : Type 0 where
  pub some : HaveChoices p s
  pub ends : (e : Element) (c : Choice) → IsElement p e → IsEnd (s e) c → IsUnrefuted p (setting e c s)

-- no standard reason of one kind refutes the region with an element set to an end of its choices
pub record IsQuietKind (p : Instance) (s : Sets) (kind : ReasonKind) : Type 0 where
  pub quiet : (e : Element) (c : Choice) → IsElement p e → IsEnd (s e) c → (t : ℕ) → t ≤ p.horizon → IsFree p (sure p (setting e c s) t) (t == p.horizon) kind
