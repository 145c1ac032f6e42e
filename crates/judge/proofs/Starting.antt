-- The next start, gathered one element or one set after the other.
use Rattle.base.proofs.Public.{◌≡◌, ◌⊎◌, inl, inr, ℕ, zero, suc, ◌+◌, ◌<◌, ◌==◌, Bool, true, false, List, [], ◌∷◌, length, take, get_or, Some, nat_lt, refl, ap, sym, ◌∙◌, arith, list_all, both_ways, cases_eq, or_cases, or_left, or_right, list_any-append, IsTrue, slice_index_or}
use Rattle.judge.specs.Prelude.{all_of, Apart, AreMachines, Between, Choices, Element, element_number, Form, form_matters, Instance, inventory_of, is_member, IsElement, IsInPart, IsInSome, IsMember, IsNext, machine_count, Matters, Node as TheNode, NodeId, Vm, vm, VmId}
use Rattle.placement_rules.proofs.Public.{member_here, member_kept, member_split, member_within}

-- ---- sets of elements

-- the same elements
pub next_of_same : (plan : Choices) (those others : Element → Type 0) (t old new : ℕ) → ((e : Element) → those e → others e) → ((e : Element) → others e → those e) → IsNext plan those t old new → IsNext plan others t old new
next_of_same plan those others t old new there back is = record {
  later = is.later;
  lower = is.lower;
  waits = λ e other. is.waits e (back e other);
  start = elim is.start [ inl same ↦ inl same | inr w ↦ inr (w.0, there w.0 w.1, w.2) ];
}

-- the elements of both sets are those of the third
pub record IsUnion (few more all : Element → Type 0) : Type 0 where
  pub split : (e : Element) → all e → few e ⊎ more e
  pub left : (e : Element) → few e → all e
  pub right : (e : Element) → more e → all e

pub next_of_both : (plan : Choices) (few more all : Element → Type 0) (t old between new : ℕ) → IsUnion few more all → IsNext plan few t old between → IsNext plan more t between new → IsNext plan all t old new
next_of_both plan few more all t old between new union first last = record {
  later = last.later;
  lower = omega (arith, first.lower, last.lower);
  waits = λ e there. elim (union.split e there) [
    | inl x ↦ λ s starts. elim (first.waits e x s starts) [ inl past ↦ inl past | inr late ↦ inr (omega (arith, last.lower)) ]
    | inr y ↦ last.waits e y
  ];
  start = elim last.start [
    | inl same ↦ elim first.start [ inl old ↦ inl (same ∙ old) | inr w ↦ inr (w.0, union.left w.0 w.1, w.2 ∙ ap Some (sym same)) ]
    | inr w ↦ inr (w.0, union.right w.0 w.1, w.2)
  ];
}

-- ---- unions

-- machines that are among others
machines_into : (few all : ℕ → Type 0) → ((v : ℕ) → few v → all v) → (e : Element) → AreMachines few e → AreMachines all e
machines_into few all h (Vm v) there = h v.0 there
machines_into few all h (TheNode n) there = there

-- one machine more
machine_more : (few all : ℕ → Type 0) (k : ℕ) → ((v : ℕ) → all v → few v ⊎ (v ≡ k)) → ((v : ℕ) → few v → all v) → all k → IsUnion (AreMachines few) (λ x. x ≡ vm k) (AreMachines all)
machine_more few all k split kept here = record { split = cases; left = machines_into few all kept; right = λ e same. rw same here }
  where
    cases : (e : Element) → AreMachines all e → AreMachines few e ⊎ (e ≡ vm k)
    cases (Vm v) there = elim (split v.0 there) [ inl x ↦ inl x | inr same ↦ inr (ap vm same) ]
    cases (TheNode n) there = absurd there

pub members_more : (vs : List VmId) (i : ℕ) (d : VmId) → i < length vs → IsUnion (AreMachines (IsMember (take i vs))) (λ x. x ≡ vm (get_or vs i d).0) (AreMachines (IsMember (take (i + 1) vs)))
members_more vs i d low =
    machine_more (IsMember (take i vs)) (IsMember (take (i + 1) vs)) (get_or vs i d).0 (λ v. member_split vs i d v low) (λ v. member_kept vs i d v low) (member_here vs i d low)

below_split : (k v : ℕ) → v < k + 1 → (v < k) ⊎ (v ≡ k)
below_split k v low = elim (cases_eq v k) [ inl same ↦ inr same | inr other ↦ inl (omega arith) ]

-- one part more
pub parts_more : (parts : List (List VmId)) (k : ℕ) → IsUnion (AreMachines (IsInSome parts k)) (AreMachines (IsMember (slice_index_or parts k []))) (AreMachines (IsInSome parts (k + 1)))
parts_more parts k = record {
  split = cases;
  left = machines_into (IsInSome parts k) (IsInSome parts (k + 1)) (λ v there. (there.0, omega (arith, there.1), there.2));
  right = machines_into (IsMember (slice_index_or parts k [])) (IsInSome parts (k + 1)) (λ v there. (k, omega arith, there));
}
  where
    cases : (e : Element) → AreMachines (IsInSome parts (k + 1)) e → AreMachines (IsInSome parts k) e ⊎ AreMachines (IsMember (slice_index_or parts k [])) e
    cases (Vm v) there = elim (below_split k there.0 there.1) [ inl low ↦ inl (there.0, low, there.2) | inr same ↦ inr (rw same at there.2) ]
    cases (TheNode n) there = absurd there

-- the elements of the instance with the first k numbers
abbrev pub AreNumbered : Instance → ℕ → Element → Type 0
AreNumbered p k e = IsElement p e × (element_number (inventory_of p) e < k)

-- ---- what matters to a form

none_at : {A : Type 0} (b : Bool) → b ≡ false → IsTrue b → A
none_at b off on = absurd (both_ways b off on)

-- some machines of the instance, and no node
machines_matter : (p : Instance) (plan : Choices) (t old new : ℕ) (f : Form) (among : ℕ → Type 0) → ((n : NodeId) → form_matters f (TheNode n) ≡ false) → ((v : VmId) → among v.0 → (v.0 < machine_count p) × IsTrue (form_matters f (Vm v))) → ((v : VmId) → v.0 < machine_count p → IsTrue (form_matters f (Vm v)) → among v.0) → IsNext plan (AreMachines among) t old new → IsNext plan (Matters p f) t old new
machines_matter p plan t old new f among none there back = next_of_same plan (AreMachines among) (Matters p f) t old new into from
  where
    into : (e : Element) → AreMachines among e → Matters p f e
    into (Vm v) x = there v x
    into (TheNode n) x = absurd x

    from : (e : Element) → Matters p f e → AreMachines among e
    from (Vm v) m = back v m.0 m.1
    from (TheNode n) m = none_at (form_matters f (TheNode n)) (none n) m.1

-- a machine of all parts is in one of them, and the other way round
in_part : (parts : List (List VmId)) (v : ℕ) → IsTrue (is_member (all_of parts) v) → IsInSome parts (length parts) v
in_part [] v h = absurd (both_ways false refl h)
in_part (vs ∷ parts) v h =
    elim (or_cases (is_member vs v) (is_member (all_of parts) v) (sym (list_any-append (λ x. x.0 == v) vs (all_of parts)) ∙ h)) [
      | inl here ↦ (0, omega arith, here)
      | inr later ↦ let w = in_part parts v later in (suc w.0, omega (arith, w.1), w.2)
    ]

of_part : (parts : List (List VmId)) (i v : ℕ) → IsInPart parts i v → IsTrue (is_member (all_of parts) v)
of_part [] i v h = h
of_part (vs ∷ parts) zero v h = list_any-append (λ x. x.0 == v) vs (all_of parts) ∙ or_left (is_member vs v) (is_member (all_of parts) v) h
of_part (vs ∷ parts) (suc i) v h = list_any-append (λ x. x.0 == v) vs (all_of parts) ∙ or_right (is_member vs v) (is_member (all_of parts) v) (of_part parts i v h)

-- the machines of parts that are kept apart
pub parts_matter : (p : Instance) (plan : Choices) (t old new : ℕ) (parts : List (List VmId)) → list_all (λ x. nat_lt x.0 (machine_count p)) (all_of parts) ≡ true → IsNext plan (AreMachines (IsInSome parts (length parts))) t old new → IsNext plan (Matters p (Apart (Between parts))) t old new
parts_matter p plan t old new parts all =
    machines_matter p plan t old new (Apart (Between parts)) (IsInSome parts (length parts)) (λ n. refl)
    (λ v m. let there = of_part parts m.0 v.0 m.2 in (member_within (all_of parts) (machine_count p) v.0 all there, there))
    (λ v low m. in_part parts v.0 m)
