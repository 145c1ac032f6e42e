-- Helping only: what refutations and closing say of plans.
use Rattle.std.specs.Prelude.{IsSomeAnd, ◌≡◌, ◌≢◌, ◌⊎◌, ◌↔◌, ℕ, ◌<◌, ◌≤◌, Bool, Option, IsTrue}
use Rattle.domains.specs.Prelude.{AreFewer, IsIn, IsOnly, Sets}
use Rattle.slices.specs.Prelude.{Choices, cost_of, has_node, Instance, IsInstance, IsPartOf, IsValid, machine_count, Nodes, one, Snapshot}
use Rattle.cluster.specs.declared.ids.Element.{Element}
use Rattle.cluster.specs.declared.sets.NodeSet.{NodeSet}
use Rattle.catalogue.specs.declared.constraint.Constraint.{Constraint}
use Rattle.slices.specs.declared.slice.Weight.{Weight}
use Rattle.slices.specs.declared.stage.Progress.{Progress}
use Rattle.reasons.specs.declared.reason.Reason.{Reason}
use Rattle.reasons.specs.declared.reason.Reason.TheVariants.{Empty, Bound, Load, Pair, Place, Group, SetLoad, Power, Usable, Hall}
use Rattle.reasons.specs.declared.reason.ReasonKind.{ReasonKind}
use Rattle.reasons.specs.Closed.{HaveChoices, IsClosed, IsFree, IsUnrefuted, all_nodes}
use Rattle.reasons.specs.Reasons.{IsGroup, IsHall, IsOverload, IsPair, IsPlace, IsPower, IsSetLoad, IsUnusable, Refutes}
use Rattle.reasons.specs.Sure.{least_cost, sure}

-- where a plan of a cost is handed in, no valid plan of the sets costs less; without one, none is valid
abbrev pub Excludes : Instance → Option ℕ → Sets → Type 0
Excludes p bound s = (plan : Choices) → IsIn s plan → IsValid p plan → IsSomeAnd bound (λ cost. cost ≤ cost_of p plan)

-- no plan of the sets is valid
abbrev pub ExcludesAll : Instance → Sets → Type 0
ExcludesAll p s = (plan : Choices) → IsIn s plan → ¬ IsValid p plan

-- what is refuted holds no valid plan that costs less than the one handed in
abbrev pub RefutedExcludes : Type 0
RefutedExcludes = (p : Instance) → IsInstance p → (bound : Option ℕ) (s : Sets) (reason : Reason) → Refutes p bound s reason → Excludes p bound s

-- and none at all where the reason is another one than the bound
abbrev pub RefutedExcludesAll : Type 0
RefutedExcludesAll = (p : Instance) → IsInstance p → (bound : Option ℕ) (s : Sets) (reason : Reason) → reason ≢ Bound → Refutes p bound s reason → ExcludesAll p s

-- sets that are one plan are closed exactly where the plan is valid
abbrev pub OnlyClosed : Type 0
OnlyClosed = (p : Instance) → IsInstance p → (s : Sets) (plan : Choices) → IsOnly s plan → IsClosed p s ↔ IsValid p plan

-- no plan of the sets costs less than the sum of the least ends, and one that is all of them costs that
abbrev pub CostsAtLeast : Type 0
CostsAtLeast = (p : Instance) (s : Sets) (plan : Choices) → IsIn s plan → least_cost p s ≤ cost_of p plan

abbrev pub OnlyCosts : Type 0
OnlyCosts = (p : Instance) (s : Sets) (plan : Choices) → IsOnly s plan → least_cost p s ≡ cost_of p plan

-- ---- narrower sets

-- each element has fewer choices
abbrev pub AreNarrower : Sets → Sets → Type 0
AreNarrower narrow s = (e : Element) → AreFewer (narrow e) (s e)

-- s has no more than big, of amounts as far as the machines of the instance go
pub record IsPartIn (p : Instance) (s big : Snapshot) : Type 0 where
  pub held : (v : ℕ) → v < machine_count p → (w : Weight) (set : Nodes) → s.held v w set ≤ big.held v w set
  pub present : (v : ℕ) (set : Nodes) → IsTrue (s.present v set) → IsTrue (big.present v set)
  pub usable : (n : ℕ) → IsTrue (big.usable n) → IsTrue (s.usable n)
  pub powered : (n : ℕ) → IsTrue (s.powered n) → IsTrue (big.powered n)
  pub action : (v : ℕ) (far : Progress) → IsTrue (s.action v far) → IsTrue (big.action v far)

-- in narrower sets, none of which is empty, more is sure
abbrev pub SureGrows : Type 0
SureGrows = (p : Instance) (s narrow : Sets) → AreNarrower narrow s → HaveChoices p narrow → (t : ℕ) → IsPartIn p (sure p s t) (sure p narrow t)

-- the sum of the least ends is no less
abbrev pub LeastCostGrows : Type 0
LeastCostGrows = (p : Instance) (s narrow : Sets) → AreNarrower narrow s → HaveChoices p narrow → least_cost p s ≤ least_cost p narrow

-- and what is refuted stays refuted, by the same reason
abbrev pub StaysRefuted : Type 0
StaysRefuted =
    (p : Instance) (bound : Option ℕ) (s narrow : Sets) (reason : Reason) → AreNarrower narrow s → HaveChoices p narrow → Refutes p bound s reason → Refutes p bound narrow reason

-- an element without a choice has none in narrower sets
abbrev pub EmptyStays : Type 0
EmptyStays = (p : Instance) (bound : Option ℕ) (s narrow : Sets) (e : Element) → AreNarrower narrow s → Refutes p bound s (Empty e) → Refutes p bound narrow (Empty e)

-- ---- what is broken in a part is broken in the whole

pub record AreBrokenToo (p : Instance) (s big : Snapshot) : Type 0 where
  pub overload : (r : ℕ) (set : Nodes) → IsOverload p s r set → IsOverload p big r set
  pub pair : (k : Constraint) (v w n : ℕ) → IsPair p s k v w n → IsPair p big k v w n
  pub place : (k : Constraint) (v n : ℕ) → IsPlace p s k v n → IsPlace p big k v n
  pub group : (k : Constraint) → IsGroup p s k → IsGroup p big k
  pub set_load : (k : Constraint) → IsSetLoad p s k → IsSetLoad p big k
  pub power : (k : Constraint) → IsPower p s k → IsPower p big k
  pub unusable : (v n : ℕ) → v < machine_count p → IsUnusable s v n → IsUnusable big v n
  pub hall : (set : Nodes) (k : Constraint) → IsHall p s set k → IsHall p big set k

abbrev pub PartsBreak : Type 0
PartsBreak = (p : Instance) (s big : Snapshot) → IsPartIn p s big → AreBrokenToo p s big

-- so a part of what is free of a kind is free of it
abbrev pub FreeStays : Type 0
FreeStays = (p : Instance) (s big : Snapshot) → IsPartIn p s big → (last : Bool) (kind : ReasonKind) → IsFree p big last kind → IsFree p s last kind

-- a part is one as far as the machines of an instance go
abbrev pub PartsAreIn : Type 0
PartsAreIn = (p : Instance) (s big : Snapshot) → IsPartOf s big → IsPartIn p s big

-- ---- unrefuted sets, by reasons

-- the set has just these nodes
abbrev pub IsSetOf : NodeSet → Nodes → Type 0
IsSetOf set nodes = (n : ℕ) → has_node set n ≡ nodes n

-- the standard reasons: a load of one node or of all nodes, and those of the six kinds from pair to usable
abbrev pub IsStandard : Instance → Reason → Type 0
IsStandard p (Empty e) = ⊥
IsStandard p Bound = ⊥
IsStandard p (Load t r set) = IsSetOf set (all_nodes p) ⊎ ((n : ℕ) × IsSetOf set (one n))
IsStandard p (Pair c t v w n) = Unit {0}
IsStandard p (Place c t v n) = Unit {0}
IsStandard p (Group c t) = Unit {0}
IsStandard p (SetLoad c t) = Unit {0}
IsStandard p (Power c t) = Unit {0}
IsStandard p (Usable t v n) = Unit {0}
IsStandard p (Hall c t set) = ⊥

-- sets are unrefuted where no standard reason refutes them
abbrev pub UnrefutedByReasons : Type 0
UnrefutedByReasons =
    (p : Instance) → IsInstance p → (bound : Option ℕ) (s : Sets) → IsUnrefuted p s ↔ ((reason : Reason) → IsStandard p reason → ¬ Refutes p bound s reason)
