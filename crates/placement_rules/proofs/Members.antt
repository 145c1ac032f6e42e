-- The machines of a list, and those of a prefix of it.
use Rattle.placement_rules.proofs.Prelude.{IsTrue, slice_index_or, ◌≡◌, ◌⊎◌, inl, inr, ℕ, zero, suc, ◌+◌, ◌<◌, Bool, true, false, ◌||◌, ◌==◌, List, [], ◌∷◌, length, take, refl, sym, ◌∙◌, arith, get_or, nat_lt, list_all, both_ways, or_cases, or_left, or_right, and_parts, eqb-true, eq-eqb, ltb-true, cases_lt, get_or_past, list_any_more, nat_tests, is_member, VmId, part_listed}

-- a machine of a prefix with one more is of the prefix, or is that one
pub member_split : (vs : List VmId) (i : ℕ) (d : VmId) (w : ℕ) → i < length vs → IsTrue (is_member (take (i + 1) vs) w) → IsTrue (is_member (take i vs) w) ⊎ (w ≡ (get_or vs i d).0)
member_split vs i d w k h =
    let e = list_any_more (λ x. x.0 == w) vs i d k in
    elim (or_cases (is_member (take i vs) w) ((get_or vs i d).0 == w) (sym e ∙ h)) [ inl a ↦ inl a | inr b ↦ inr (sym (eqb-true _ _ b)) ]

pub member_kept : (vs : List VmId) (i : ℕ) (d : VmId) (w : ℕ) → i < length vs → IsTrue (is_member (take i vs) w) → IsTrue (is_member (take (i + 1) vs) w)
member_kept vs i d w k h = list_any_more (λ x. x.0 == w) vs i d k ∙ or_left (is_member (take i vs) w) ((get_or vs i d).0 == w) h

pub member_here : (vs : List VmId) (i : ℕ) (d : VmId) → i < length vs → IsTrue (is_member (take (i + 1) vs) (get_or vs i d).0)
member_here vs i d k =
    list_any_more (λ x. x.0 == (get_or vs i d).0) vs i d k ∙ or_right (is_member (take i vs) (get_or vs i d).0) _ (eq-eqb (get_or vs i d).0 (get_or vs i d).0 refl)

-- a machine of a prefix is one of the list
pub prefix_member : (vs : List VmId) (i w : ℕ) → IsTrue (is_member (take i vs) w) → IsTrue (is_member vs w)
prefix_member [] zero w h = h
prefix_member [] (suc i) w h = h
prefix_member (x ∷ vs) zero w h = absurd (both_ways false refl h)
prefix_member (x ∷ vs) (suc i) w h =
    elim (or_cases (x.0 == w) (is_member (take i vs) w) h) [ inl here ↦ or_left (x.0 == w) (is_member vs w) here | inr later ↦ or_right (x.0 == w) (is_member vs w) (prefix_member vs i w later) ]

-- each machine of a list is in range
pub member_within : (vs : List VmId) (k w : ℕ) → list_all (λ x. nat_lt x.0 k) vs ≡ true → IsTrue (is_member vs w) → w < k
member_within [] k w h m = absurd (both_ways false refl m)
member_within (x ∷ vs) k w h m =
    let parts = and_parts (nat_lt x.0 k) (list_all (λ x. nat_lt x.0 k) vs) h in
    elim (or_cases (x.0 == w) (is_member vs w) m) [
      | inl here ↦ let e : x.0 ≡ w = eqb-true _ _ here in omega (arith, ltb-true x.0 k parts.0, e)
      | inr later ↦ member_within vs k w parts.1 later
    ]

-- ---- parts

-- each machine of a part is in range
pub part_within : (parts : List (List VmId)) (i v k : ℕ) → list_all (list_all (λ x. nat_lt x.0 k)) parts ≡ true → IsTrue (is_member (slice_index_or parts i []) v) → v < k
part_within [] i v k h m = absurd (omega (arith, part_listed [] i v m))
part_within (vs ∷ parts) zero v k h m = member_within vs k v (and_parts (list_all (λ x. nat_lt x.0 k) vs) (list_all (list_all (λ x. nat_lt x.0 k)) parts) h).0 m
part_within (vs ∷ parts) (suc i) v k h m = part_within parts i v k (and_parts (list_all (λ x. nat_lt x.0 k) vs) (list_all (list_all (λ x. nat_lt x.0 k)) parts) h).1 m

-- ---- marks

either_way : (a b : ℕ) (c : Bool) → ((a == b) || c) ≡ (c || (b == a))
either_way a b true = grind (arith, nat_tests)
either_way a b false = grind (arith, nat_tests)

-- one machine more is marked
pub mark_more : (vs : List VmId) (i : ℕ) (d : VmId) (v : ℕ) (was : Bool) → i < length vs → was ≡ is_member (take i vs) v → ((v == (get_or vs i d).0) || was) ≡ is_member (take (i + 1) vs) v
mark_more vs i d v was low same =
    rw (list_any_more (λ x. x.0 == v) vs i d low, ← same) (either_way v (get_or vs i d).0 was)
