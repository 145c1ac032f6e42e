-- Which constraints are dirty.
use Rattle.rule_constraint.proofs.Prelude.{◌≡◌, inl, inr, ℕ, Bool, true, false, List, Option, Some, None, refl, slice_get, AreFewer, AreLooking, Choice, choose, Constraint, constraint_watch, Element, Instance, IsClean, IsDisturbed, IsHarmless, IsSpared, IsUnseen, kept_watch, Levels, no_watch, TheNode, nothing, passes, reason_kind, ReasonKind, rule_watch, Sets, Vm, watch_at, watch_of, unseen_still}

-- what does not look at an element does not look at it where it is left out
unseen-kept : (kinds : ReasonKind → Bool) (p : Instance) (x : Element) (o : Option Constraint) → IsUnseen (watch_of p o).scope x → IsUnseen (kept_watch kinds p o).scope x
unseen-kept kinds p x None h = h
unseen-kept kinds p x (Some k) h = at (passes kinds (reason_kind k))
  where
    by : (x : Element) → IsUnseen nothing x
    by (Vm v) = record { held = λ w set none. none; present = λ set none. none; action = λ far none. none }
    by (TheNode n) = record { usable = λ none. none; powered = λ none. none }

    at : (b : Bool) → IsUnseen (choose b (rule_watch p k) no_watch).scope x
    at true = h
    at false = by x

pub kept_disturbed : (kinds : ReasonKind → Bool) (p : Instance) (s : Sets) (x : Element) (old : List Choice) (m n : Levels) → AreFewer (s x) old → AreLooking (IsSpared kinds p s x) p x m n → IsDisturbed (watch_at kinds p) p s x old m n
kept_disturbed kinds p s x old m n fewer looking = record {
  older = looking.older;
  count = looking.count;
  kept = looking.kept;
  still = λ c h e. elim (looking.unseen c h e) [
    | inl unseen ↦ inl (unseen_still p (watch_at kinds p c).scope x old (s x) (unseen-kept kinds p x (slice_get p.constraints c) unseen))
    | inr spared ↦ spared old fewer
  ];
}

-- ---- what is spared

-- a constraint of other kinds is watched for nothing
none-clean : (p : Instance) (s : Sets) → IsClean no_watch p s
none-clean p s t l = record { base = λ broken. broken; ends = λ e c element end broken. broken }

spared-none : (kinds : ReasonKind → Bool) (p : Instance) (s : Sets) (x : Element) (c : ℕ) (k : Constraint) → slice_get p.constraints c ≡ Some k → passes kinds (reason_kind k) ≡ false → IsSpared kinds p s x c
spared-none kinds p s x c k is none old fewer = inr (λ clean. rw (is, none) (none-clean p s))

pub spared_settled : (kinds : ReasonKind → Bool) (p : Instance) (s : Sets) (x : Element) (c : ℕ) (k : Constraint) → slice_get p.constraints c ≡ Some k → reason_kind k ≡ None → IsSpared kinds p s x c
spared_settled kinds p s x c k is settled = spared-none kinds p s x c k is (rw settled refl)

pub spared_covered : (kinds : ReasonKind → Bool) (p : Instance) (s : Sets) (x : Element) (c : ℕ) (k : Constraint) (kind : ReasonKind) → slice_get p.constraints c ≡ Some k → reason_kind k ≡ Some kind → kinds kind ≡ true →
    IsHarmless (constraint_watch p c) p s x → IsSpared kinds p s x c
spared_covered kinds p s x c k kind is of covered harmless old fewer = rw (is, of, covered) (rw is at (harmless old fewer))

pub spared_of_others : (kinds : ReasonKind → Bool) (p : Instance) (s : Sets) (x : Element) (c : ℕ) (k : Constraint) (kind : ReasonKind) → slice_get p.constraints c ≡ Some k → reason_kind k ≡ Some kind → kinds kind ≡ false → IsSpared kinds p s x c
spared_of_others kinds p s x c k kind is of other = spared-none kinds p s x c k is (rw of other)
