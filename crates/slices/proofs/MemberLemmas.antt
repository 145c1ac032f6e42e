-- The machines of a list, by their places in it, and the parts of a list of lists.
use Rattle.std.proofs.Common.{slice_index_or}
use Rattle.base.proofs.Public.{◌≡◌, inl, inr, ℕ, zero, suc, ◌+◌, ◌<◌, ◌≤◌, true, false, ◌==◌, nat_lt, List, [], ◌∷◌, length, get_or, refl, subst, ◌∙◌, arith, and_parts, both_ways, cases_eq, cases_lt, eqb-true, ltb-true, or_cases, or_left, or_right, get_or_default, get_or_past, list_any-append}
use Rattle.slices.specs.Holds.{IsInPart, IsMember}
use Rattle.cluster.specs.declared.ids.VmId.{VmId}
use Rattle.catalogue.specs.Faults.{all_of, are_below, is_member}

-- a machine of a list has a place there
pub member_at : (vs : List VmId) (v : ℕ) → IsMember vs v → (k : ℕ) × (k < length vs) × ((d : VmId) → (get_or vs k d).0 ≡ v)
member_at [] v h = absurd (both_ways false refl h)
member_at (x ∷ vs) v h =
    elim (or_cases (x.0 == v) (is_member vs v) h) [
      | inl here ↦ (0, omega arith, λ d. eqb-true _ _ here)
      | inr later ↦ let w = member_at vs v later in (suc w.0, omega (arith, w.1), w.2)
    ]

-- and is in range where all are
pub member_below : (n : ℕ) (vs : List VmId) (v : ℕ) → are_below n vs ≡ true → IsMember vs v → v < n
member_below n [] v b m = absurd (both_ways false refl m)
member_below n (x ∷ xs) v b m =
    let parts : (nat_lt x.0 n ≡ true) × (are_below n xs ≡ true) = and_parts _ (are_below n xs) b in
    elim (or_cases (x.0 == v) (is_member xs v) m) [
      | inl here ↦ omega (arith, ltb-true x.0 n parts.0, eqb-true x.0 v here)
      | inr later ↦ member_below n xs v parts.1 later
    ]

-- a part with a member is listed
pub part_listed : (parts : List (List VmId)) (i v : ℕ) → IsInPart parts i v → i < length parts
part_listed parts i v h =
    elim (cases_lt i (length parts)) [
      | inl low ↦ low
      | inr past ↦ absurd (both_ways (is_member (slice_index_or parts i []) v) (rw (get_or_past parts i [] past) refl) h)
    ]

-- and its members are in the list that all parts are joined to
pub joined_member : (parts : List (List VmId)) (i v : ℕ) → IsInPart parts i v → IsMember (all_of parts) v
joined_member [] i v h = h
joined_member (vs ∷ parts) zero v h = list_any-append (λ x. x.0 == v) vs (all_of parts) ∙ or_left (is_member vs v) (is_member (all_of parts) v) h
joined_member (vs ∷ parts) (suc i) v h = list_any-append (λ x. x.0 == v) vs (all_of parts) ∙ or_right (is_member vs v) (is_member (all_of parts) v) (joined_member parts i v h)

-- ---- each machine of a list

-- what holds of the first so many machines holds of one more
pub each_more : (P : ℕ → Type 0) (vs : List VmId) (i : ℕ) (e : VmId) → i < length vs → ((k : ℕ) (d : VmId) → k < i → P (get_or vs k d).0) → P (get_or vs i e).0 → (k : ℕ) (d : VmId) → k < i + 1 → P (get_or vs k d).0
each_more P vs i e l before here k d u =
    elim (cases_eq k i) [
      | inl same ↦ rw (same, get_or_default vs i d e l) here
      | inr other ↦ before k d (omega (arith, u, other))
    ]

-- so for each member
pub each_member : (P : ℕ → Type 0) (vs : List VmId) (count : ℕ) → length vs ≤ count → ((k : ℕ) (d : VmId) → k < count → P (get_or vs k d).0) → (v : ℕ) → IsMember vs v → P v
each_member P vs count l each v m =
    let w = member_at vs v m in
    let d : VmId = record { 0 = 0 } in
    subst P (w.2 d) (each w.0 d (omega (arith, w.1, l)))
