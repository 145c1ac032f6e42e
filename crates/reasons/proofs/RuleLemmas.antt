-- What a sound form says of the machines that it names.
use Rattle.std.proofs.Common.{slice_get}
use Rattle.std.proofs.lemmas.Bool.{true≢false}
use Rattle.base.proofs.Public.{◌≡◌, ◌≢◌, inl, inr, ℕ, zero, suc, ◌<◌, true, ◌==◌, nat_lt, not, List, [], ◌∷◌, ◌++◌, Some, refl, sym, ap, ◌∙◌, arith, and_parts, eqb-true, false≢true, ltb-true, not-true, or_cases, or_left, or_right, All-get_or, list_any-append, get_or_from_slice_get, slice_get_within}
use Rattle.reasons.specs.Prelude.{all_of, are_below, differ, form_of, Instance, inventory_of, is_member, is_rule, IsInPart, IsInstance, IsMember, IsSound, VmId}
use Rattle.catalogue.specs.declared.constraint.Constraint.{Constraint}
use Rattle.slices.proofs.Public.{joined_member, sound_form}

-- the form of each constraint of an instance is sound
pub sound_rule : (p : Instance) → IsInstance p → (c : ℕ) (k : Constraint) → slice_get p.constraints c ≡ Some k → IsSound p (form_of k)
sound_rule p sound c k e =
    sound_form p k (rw (get_or_from_slice_get p.constraints c k k e) at (All-get_or (λ x. is_rule (inventory_of p) x ≡ true) p.constraints c k (slice_get_within p.constraints c k e) sound.rules))

-- machines that differ stand in no two of the lists that they are joined of
split-differ : (xs ys : List VmId) (v : ℕ) → differ (xs ++ ys) ≡ true → IsMember xs v → IsMember ys v → ⊥
split-differ [] ys v d m k = false≢true m
split-differ (x ∷ xs) ys v d m k =
    let parts = and_parts (not (is_member (xs ++ ys) x.0)) (differ (xs ++ ys)) d in
    elim (or_cases (x.0 == v) (is_member xs v) m) [
      | inl here ↦
          let same : x.0 ≡ v = eqb-true x.0 v here in
          let again : is_member (xs ++ ys) x.0 ≡ true = list_any-append (λ y. y.0 == x.0) xs ys ∙ or_right (is_member xs x.0) (is_member ys x.0) (ap (is_member ys) same ∙ k) in
          true≢false (sym again ∙ not-true (is_member (xs ++ ys) x.0) parts.0)
      | inr later ↦ split-differ xs ys v parts.1 later k
    ]

differ-rest : (xs ys : List VmId) → differ (xs ++ ys) ≡ true → differ ys ≡ true
differ-rest [] ys d = d
differ-rest (x ∷ xs) ys d = differ-rest xs ys (and_parts (not (is_member (xs ++ ys) x.0)) (differ (xs ++ ys)) d).1

-- no machine is in two parts
pub parts_differ : (parts : List (List VmId)) (i j v : ℕ) → differ (all_of parts) ≡ true → i ≢ j → IsInPart parts i v → IsInPart parts j v → ⊥
parts_differ [] i j v d ne h k = false≢true h
parts_differ (vs ∷ parts) zero zero v d ne h k = ne refl
parts_differ (vs ∷ parts) zero (suc j) v d ne h k = split-differ vs (all_of parts) v d h (joined_member parts j v k)
parts_differ (vs ∷ parts) (suc i) zero v d ne h k = split-differ vs (all_of parts) v d k (joined_member parts i v h)
parts_differ (vs ∷ parts) (suc i) (suc j) v d ne h k = parts_differ parts i j v (differ-rest vs (all_of parts) d) (λ e. ne (ap suc e)) h k
