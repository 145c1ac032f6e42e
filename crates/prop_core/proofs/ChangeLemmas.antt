-- From what a trail says of a change to what those who are told of it require.
use mathlib.Core.Path.{fun_ext}
use Rattle.prop_core.proofs.Prelude.{◌≡◌, Bool, true, false, cond, List, length, refl, sym, ◌∙◌, ap, subst, eq-eqb, Contains, filter, AllFollow, AreFewer, AreLegal, Before, Change, Choice, choices, domain_at, domain_before, DomainView, Element, Instance, IsElement, IsNarrowed, IsRegionOf, keeping, Marked, Meaning, Node, on_side, RegionView, same_element, Sets, sets, TopsAgree, Vm, filter_is_fewer, same_is, legal_stays, sets_before}
use Rattle.prop_core.proofs.LevelLemmas.{tops}

self : (x : Element) → same_element x x ≡ true
self (Vm v) = eq-eqb v.0 v.0 refl
self (Node n) = eq-eqb n.0 n.0 refl

-- a region of the instance, of which an element keeps some of its choices, is one of the instance
pub region_stays : (p : Instance) (g h : RegionView) (x : Element) (test : Choice → Bool) → IsRegionOf p g → length h.machines ≡ length g.machines → length h.nodes ≡ length g.nodes → ((e : Element) → sets h e ≡ keeping x test (sets g) e) → IsRegionOf p h
region_stays p g h x test r a b s = record {
  sized = record { machines = a ∙ r.sized.machines; nodes = b ∙ r.sized.nodes };
  legal = λ e there c has. legal_stays p (sets g) x test r.legal e there c (subst (λ (cs : List Choice). Contains cs c) (s e) has);
}

-- the sets before are those of the region before
pub before_is : (g h : RegionView) (x : Element) (test : Choice → Bool) (before : Before) (kept : DomainView) → ((e : Element) → sets h e ≡ keeping x test (sets g) e) → domain_before before kept (domain_at h x) ≡ domain_at g x → sets_before h x before kept ≡ sets g
before_is g h x test before kept s d = fun_ext (λ e. at e (same_element e x) refl (s e))
  where
    at : (e : Element) (b : Bool) → same_element e x ≡ b → sets h e ≡ cond b (filter test (sets g e)) (sets g e) → cond b (choices (domain_before before kept (domain_at h x))) (sets h e) ≡ sets g e
    at e true same k = ap choices d ∙ ap (λ y. sets g y) (sym (same_is e x same))
    at e false other k = k

-- the change has narrowed its element
pub narrowed_by : (p : Instance) (g h : RegionView) (change : Change) (before : Before) (kept : DomainView) → IsElement p change.element → AreLegal p (sets g) → ((e : Element) → sets h e ≡ keeping change.element (on_side change.side change.part) (sets g) e) → domain_before before kept (domain_at h change.element) ≡ domain_at g change.element → IsNarrowed p h change before kept
narrowed_by p g h change before kept there legal s d =
    let test : Choice → Bool = on_side change.side change.part in
    let now : sets h change.element ≡ filter test (sets g change.element) = s change.element ∙ ap (λ (b : Bool). cond b (filter test (sets g change.element)) (sets g change.element)) (self change.element) in
    let same : sets_before h change.element before kept ≡ sets g = before_is g h change.element test before kept s d in
    record { exists = there; legal = subst (λ (y : Sets). AreLegal p y) (sym same) legal; left = now ∙ ap (λ (v : DomainView). filter test (choices v)) (sym d) }

-- so the element has no choice that it had not before
pub narrowed_is_fewer : (p : Instance) (h : RegionView) (change : Change) (before : Before) (kept : DomainView) → IsNarrowed p h change before kept → AreFewer (sets h change.element) (choices (domain_before before kept (domain_at h change.element)))
narrowed_is_fewer p h change before kept n c has =
    filter_is_fewer (on_side change.side change.part) (choices (domain_before before kept (domain_at h change.element))) c (subst (λ (cs : List Choice). Contains cs c) n.left has)

-- all that followed the trail before agree with the sets before
pub tops_before : {B : Type 0} (m : B → Meaning) (p : Instance) (t : Marked) (h : RegionView) (x : Element) (test : Choice → Bool) (before : Before) (kept : DomainView) (xs : List B) → AllFollow m p t xs → ((e : Element) → sets h e ≡ keeping x test (sets t.region) e) → domain_before before kept (domain_at h x) ≡ domain_at t.region x → TopsAgree m p (sets_before h x before kept) xs
tops_before m p t h x test before kept xs f s d =
    subst (λ (y : Sets). TopsAgree m p y xs) (sym (before_is t.region h x test before kept s d)) (tops m p t xs f)
