-- Helping only: what looks say of closed regions.
use Rattle.std.specs.Prelude.{◌↔◌, ℕ, ◌<◌, ◌≤◌, List, length}
use Rattle.relax.specs.Prelude.{AreOf, HaveChoices, Instance, IsClosed, IsElement, IsTurn, node_count, Nodes, Sets}
use Rattle.cluster.specs.declared.ids.{Element.Element, VmId.VmId}
use Rattle.closing.specs.{Kinds.constraint_watch, Kinds.load_on, Kinds.load_watch, Kinds.total_load_watch, Kinds.usable_watch, Looks.IsClean, Looks.IsFreeOf, Looks.broken_at, Watches.IsLocal, Watches.SeesOnly, Watches.Watch, Watches.only_of}

-- each watch looks at nothing past its scope, and what breaks it in a part breaks it in the whole
abbrev pub LoadIsLocal : Type 0
LoadIsLocal = (p : Instance) (set : Nodes) → IsLocal (load_on p set)

abbrev pub UsableIsLocal : Type 0
UsableIsLocal = (p : Instance) (n : ℕ) → IsLocal (usable_watch p n)

abbrev pub ConstraintIsLocal : Type 0
ConstraintIsLocal = (p : Instance) (c : ℕ) → IsLocal (constraint_watch p c)

-- what is clean at each change instant is clean
abbrev pub ChangeInstantsAreEnough : Type 1
ChangeInstantsAreEnough =
    (w : Watch) (p : Instance) (s : Sets) → IsLocal w → AreOf p s → ((t : ℕ) → t ≤ p.horizon → IsTurn p s t → IsFreeOf (broken_at w p t) p s t) →
    IsClean w p s

-- where it looks at the machines of a list alone, their change instants are enough
abbrev pub ChangeInstantsOfSomeAreEnough : Type 1
ChangeInstantsOfSomeAreEnough =
    (w : Watch) (p : Instance) (s : Sets) (vs : List VmId) → IsLocal w → SeesOnly vs w.scope → AreOf p s →
    ((t : ℕ) → t ≤ p.horizon → IsTurn p (only_of vs s) t → IsFreeOf (broken_at w p t) p s t) → IsClean w p s

-- at an instant a watch is clean
abbrev pub IsCleanAt : Watch → Instance → Sets → ℕ → Type 0
IsCleanAt w p s t = IsFreeOf (broken_at w p t) p s t

-- the loads of single nodes are, and nodes are usable where they are needed; each constraint is; each watch of the instance is
pub record AreNodesCleanAt (p : Instance) (s : Sets) (t : ℕ) : Type 0 where
  pub loads : (n : ℕ) → n < node_count p → IsCleanAt (load_watch p n) p s t
  pub usable : (n : ℕ) → n < node_count p → IsCleanAt (usable_watch p n) p s t

pub record AreConstraintsCleanAt (p : Instance) (s : Sets) (t : ℕ) : Type 0 where
  pub each : (c : ℕ) → c < length p.constraints → IsCleanAt (constraint_watch p c) p s t

pub record AreCleanAt (p : Instance) (s : Sets) (t : ℕ) : Type 0 where
  pub nodes : AreNodesCleanAt p s t
  pub total : IsCleanAt (total_load_watch p) p s t
  pub constraints : AreConstraintsCleanAt p s t

-- at each instant up to the horizon
pub record AreClean (p : Instance) (s : Sets) : Type 0 where
  pub at : (t : ℕ) → t ≤ p.horizon → AreCleanAt p s t

-- sets are closed exactly where each element has a choice and each watch is clean; there is an element
abbrev pub ClosedByWatches : Type 0
ClosedByWatches = (p : Instance) (s : Sets) (e : Element) → IsElement p e → IsClosed p s ↔ (HaveChoices p s × AreClean p s)
