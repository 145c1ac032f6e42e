-- What a propagator means, and what each of its calls leaves.
use Rattle.std.specs.Prelude.{◌≡◌, ℕ, ◌+◌, ◌<◌, ◌^◌, ◌-◌, Bool, true, min, max, filter, IsTrue, None}
use Rattle.std.specs.List.{Contains}
use Rattle.prop_core.specs.Words.{AreLegal, choices, domain_at, domain_before, DomainView, in_part, Instance, IsElement, IsQuietKind, IsSized, keeping, on_side, Refutes, RegionView, same_element, Sets, sets, Choice, Element, Change, Part, Before, sets_before, Reason, ReasonKind}
use Rattle.reasons.specs.declared.reason.Reason.TheVariants as reason
use Rattle.reasons.specs.declared.reason.ReasonKind.TheVariants as kind
use Rattle.prop_core.specs.declared.propagator.Answer.{Answer}
use Rattle.prop_core.specs.declared.propagator.Answer.TheVariants.{Quiet, Cut, Fail}

-- ---- what is kept

-- `agrees p k s`: what is kept at level k is right for the sets of choices s of the instance p.
-- The levels are 0 to `level`; `given` counts the cuts and fails that were answered
pub record Meaning : Type 1 where
  pub agrees : Instance → ℕ → Sets → Type 0
  pub level : ℕ
  pub given : ℕ
  pub covers : ReasonKind → Bool

-- what is kept at the top level is right
abbrev pub TopAgrees : Meaning → Instance → Sets → Type 0
TopAgrees m p s = m.agrees p m.level s

-- counts and levels end here
abbrev pub most : ℕ
most = 2 ^ 64 - 1

-- ---- what is handed in

-- a region of the instance: a domain for each of its elements, and legal choices alone
pub record IsRegionOf (p : Instance) (g : RegionView) : Type 0 where
  pub sized : IsSized p g
  pub legal : AreLegal p (sets g)

-- the change has narrowed its element, which is one of the instance, from legal choices to what it has in the region
pub record IsNarrowed (p : Instance) (g : RegionView) (change : Change) (before : Before) (kept : DomainView) : Type 0 where
  pub exists : IsElement p change.element
  pub legal : AreLegal p (sets_before g change.element before kept)
  pub left : sets g change.element ≡ filter (on_side change.side change.part) (choices (domain_before before kept (domain_at g change.element)))

-- ---- what the calls leave: m before the call, n after it

-- the kinds and the count stay
pub record SameRule (m n : Meaning) : Type 0 where
  pub covers : (k : ReasonKind) → n.covers k ≡ m.covers k
  pub given : n.given ≡ m.given

-- each level below k agrees with what it agreed with
pub record KeepsBelow (k : ℕ) (m n : Meaning) : Type 0 where
  pub kept : (j : ℕ) (p : Instance) (s : Sets) → j < k → m.agrees p j s → n.agrees p j s

-- there is level 0 alone, and it agrees with the sets
pub record IsPosted (p : Instance) (s : Sets) (n : Meaning) : Type 0 where
  pub level : n.level ≡ 0
  pub top : n.agrees p 0 s

-- the top level agrees with the sets, the lower ones with what they agreed with
pub record IsTold (p : Instance) (s : Sets) (m n : Meaning) : Type 0 where
  pub below : KeepsBelow m.level m n
  pub top : TopAgrees n p s

-- there is one level more, whose top agrees with all that the old top agreed with
pub record IsMarked (m n : Meaning) : Type 0 where
  pub level : n.level ≡ m.level + 1
  pub below : KeepsBelow (m.level + 1) m n
  pub top : (p : Instance) (s : Sets) → TopAgrees m p s → TopAgrees n p s

-- all levels are as they were
pub record IsUnchanged (m n : Meaning) : Type 0 where
  pub level : n.level ≡ m.level
  pub below : KeepsBelow (m.level + 1) m n

-- the top level is dropped
pub record IsBack (m n : Meaning) : Type 0 where
  pub level : n.level + 1 ≡ m.level
  pub below : KeepsBelow m.level m n

-- after a question about the sets the kinds and the levels are as they were
pub record IsAsked (p : Instance) (s : Sets) (m n : Meaning) : Type 0 where
  pub level : n.level ≡ m.level
  pub covers : (k : ReasonKind) → n.covers k ≡ m.covers k
  pub below : KeepsBelow m.level m n
  pub top : TopAgrees n p s

-- ---- what is answered

-- the seven kinds of standard reasons
abbrev pub IsStandard : ReasonKind → Type 0
IsStandard kind.Empty = ⊥
IsStandard kind.Bound = ⊥
IsStandard kind.Load = Unit {0}
IsStandard kind.Pair = Unit {0}
IsStandard kind.Place = Unit {0}
IsStandard kind.Group = Unit {0}
IsStandard kind.SetLoad = Unit {0}
IsStandard kind.Power = Unit {0}
IsStandard kind.Usable = Unit {0}
IsStandard kind.Hall = ⊥

-- a propagator may answer with each reason but that an element is empty, and the bound
abbrev pub MayAnswer : Reason → Type 0
MayAnswer (reason.Empty e) = ⊥
MayAnswer reason.Bound = ⊥
MayAnswer (reason.Load t r set) = Unit {0}
MayAnswer (reason.Pair c t v w n) = Unit {0}
MayAnswer (reason.Place c t v n) = Unit {0}
MayAnswer (reason.Group c t) = Unit {0}
MayAnswer (reason.SetLoad c t) = Unit {0}
MayAnswer (reason.Power c t) = Unit {0}
MayAnswer (reason.Usable t v n) = Unit {0}
MayAnswer (reason.Hall c t set) = Unit {0}

-- the reason refutes the sets
pub record FailHolds (p : Instance) (s : Sets) (r : Reason) : Type 0 where
  pub may : MayAnswer r
  pub refuted : Refutes p None s r

-- the part holds a choice of the element, and the reason refutes the sets inside it
pub record CutHolds (p : Instance) (s : Sets) (x : Element) (part : Part) (r : Reason) : Type 0 where
  pub exists : IsElement p x
  pub held : (c : Choice) × Contains (s x) c × IsTrue (in_part part c)
  pub may : MayAnswer r
  pub refuted : Refutes p None (keeping x (in_part part) s) r

-- no standard reason of a kind that the propagator covers refutes the sets with an element set to an end of its choices
pub record AllQuiet (p : Instance) (s : Sets) (m : Meaning) : Type 0 where
  pub each : (k : ReasonKind) → m.covers k ≡ true → IsQuietKind p s k

-- what an answer says of the sets
abbrev pub IsRight : Instance → Sets → Meaning → Answer → Type 0
IsRight p s m Quiet = AllQuiet p s m
IsRight p s m (Cut x part r) = CutHolds p s x part r
IsRight p s m (Fail r) = FailHolds p s r

-- the count after an answer. The outer maximum is for counts past the end, where there are none
abbrev pub counted : ℕ → Answer → ℕ
counted n Quiet = n
counted n (Cut x part r) = max n (min (n + 1) most)
counted n (Fail r) = max n (min (n + 1) most)
