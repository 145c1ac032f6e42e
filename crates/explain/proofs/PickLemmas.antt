-- The constraints of some numbers.
use Rattle.base.proofs.Public.{◌≡◌, inl, inr, ℕ, zero, suc, ◌+◌, ◌<◌, ◌≤◌, ◌==◌, List, [], ◌∷◌, length, Option, Some, None, refl, ap, sym, ◌∙◌, arith, cases_Bool, eqb-true, get_or_from_slice_get, slice_get, slice_get_within, slice_index, slice_index_or, range_with_len, subst, take, take_more, ◌++◌}
use Rattle.std.proofs.lemmas.Option.{slice_get-get_or}
use Rattle.std.proofs.lemmas.List.Elements.{filter_map-append}
use Rattle.std.specs.List.{All, cons_option, fold}
use Rattle.std.specs.Option.{ForSome}
use Rattle.explain.specs.Prelude.{picked, without}
use Rattle.catalogue.specs.declared.constraint.Constraint.{Constraint}

-- ---- all of them

shifted : (x : Constraint) (constraints : List Constraint) (n a : ℕ) → picked (x ∷ constraints) (range_with_len (suc a) n) ≡ picked constraints (range_with_len a n)
shifted x constraints zero a = refl
shifted x constraints (suc n) a =
    let next : suc a + 1 ≡ suc (a + 1) = omega arith in
    rw next (ap (cons_option (slice_get constraints a)) (shifted x constraints n (a + 1)))

pub all_picked : (constraints : List Constraint) → picked constraints (range_with_len 0 (length constraints)) ≡ constraints
all_picked [] = refl
all_picked (x ∷ constraints) = ap (λ (l : List Constraint). x ∷ l) (shifted x constraints (length constraints) 0 ∙ all_picked constraints)

-- ---- no more than there are numbers, and each is one of all

pub picked_few : (constraints : List Constraint) (kept : List ℕ) → length (picked constraints kept) ≤ length kept
picked_few constraints [] = omega arith
picked_few constraints (c ∷ kept) =
    let rest = picked_few constraints kept in
    at_most (slice_get constraints c) (picked constraints kept) (length kept) rest
  where
    at_most : (o : Option Constraint) (l : List Constraint) (n : ℕ) → length l ≤ n → length (cons_option o l) ≤ suc n
    at_most None l n le = omega arith
    at_most (Some x) l n le = omega arith

-- each of the few is one of the many
pub record AreAmong (few many : List Constraint) : Type 0 where
  pub place : (j : ℕ) → j < length few → (i : ℕ) × (i < length many) × (slice_get many i ≡ slice_get few j)

first_among : (o : Option Constraint) (c : ℕ) (few many : List Constraint) → slice_get many c ≡ o → AreAmong few many → AreAmong (cons_option o few) many
first_among None c few many is h = h
first_among (Some x) c few many is h = record { place = λ j lt. at j lt }
  where
    at : (j : ℕ) → j < length (x ∷ few) → (i : ℕ) × (i < length many) × (slice_get many i ≡ slice_get (x ∷ few) j)
    at zero lt = (c, slice_get_within many c x is, is)
    at (suc j) lt = h.place j (omega arith)

pub picked_of_all : (constraints : List Constraint) (kept : List ℕ) → AreAmong (picked constraints kept) constraints
picked_of_all constraints [] = record { place = λ j lt. absurd (omega arith) }
picked_of_all constraints (c ∷ kept) = first_among (slice_get constraints c) c (picked constraints kept) constraints refl (picked_of_all constraints kept)

-- what is so of each of the many is so of each of the few
pub all_among : (P : Constraint → Type 0) (few many : List Constraint) → AreAmong few many → All P many → All P few
all_among P few many among all = λ k d lt.
    let at = among.place k lt in
    let is : slice_get many at.0 ≡ Some (slice_index_or few k d) = at.2 ∙ slice_get-get_or few k d lt in
    subst P (get_or_from_slice_get many at.0 (slice_index_or few k d) d is) (all at.0 d at.1)

-- ---- one number more

pub picked_more : (constraints : List Constraint) (kept : List ℕ) (i : ℕ) (d : Constraint) → i < length kept → All (λ c. c < length constraints) kept →
    picked constraints (take (i + 1) kept) ≡ picked constraints (take i kept) ++ slice_index_or constraints (slice_index kept i) d ∷ []
picked_more constraints kept i d lt listed =
    rw (take_more kept i 0 lt)
    (filter_map-append (slice_get constraints) (take i kept) (slice_index kept i ∷ [])
    ∙ ap (λ (o : Option Constraint). picked constraints (take i kept) ++ cons_option o []) (slice_get-get_or constraints (slice_index kept i) d (listed i 0 lt)))

-- ---- without one number

with_both : (o : Option Constraint) (few many : List Constraint) → AreAmong few many → AreAmong (cons_option o few) (cons_option o many)
with_both None few many h = h
with_both (Some x) few many h = record { place = λ j lt. at j lt }
  where
    at : (j : ℕ) → j < length (x ∷ few) → (i : ℕ) × (i < length (x ∷ many)) × (slice_get (x ∷ many) i ≡ slice_get (x ∷ few) j)
    at zero lt = (0, omega arith, refl)
    at (suc j) lt = let k = h.place j (omega arith) in (suc k.0, omega arith, k.2)

with_one_more : (o : Option Constraint) (few many : List Constraint) → AreAmong few many → AreAmong few (cons_option o many)
with_one_more None few many h = h
with_one_more (Some x) few many h = record { place = λ j lt. let k = h.place j lt in (suc k.0, omega arith, k.2) }

pub picked_among : (constraints : List Constraint) (c : ℕ) (kept : List ℕ) → AreAmong (picked constraints (without c kept)) (picked constraints kept)
picked_among constraints c [] = record { place = λ j lt. absurd (omega arith) }
picked_among constraints c (x ∷ kept) =
    let rest = picked_among constraints c kept in
    elim (cases_Bool (x == c)) [
      | inl is ↦ rw is (with_one_more (slice_get constraints x) _ _ rest)
      | inr other ↦ rw other (with_both (slice_get constraints x) _ _ rest)
    ]

-- what folds over the constraints and passes over the one of that number gives the same
pub same_fold : {A : Type 0} (f : A → Constraint → A) (constraints : List Constraint) (c : ℕ) → ForSome (slice_get constraints c) (λ x. (a : A) → f a x ≡ a) → (kept : List ℕ) (a : A) →
    fold f a (picked constraints (without c kept)) ≡ fold f a (picked constraints kept)
same_fold {A = A} f constraints c passes [] a = refl
same_fold {A = A} f constraints c passes (x ∷ kept) a =
    elim (cases_Bool (x == c)) [
      | inl is ↦ rw (is, eqb-true x c is) (same_fold f constraints c passes kept a ∙ passed (slice_get constraints c) (picked constraints kept) passes)
      | inr other ↦ rw other (both (slice_get constraints x) (same_fold f constraints c passes kept))
    ]
  where
    passed : (o : Option Constraint) (l : List Constraint) → ForSome o (λ y. (b : A) → f b y ≡ b) → fold f a l ≡ fold f a (cons_option o l)
    passed None l h = refl
    passed (Some y) l h = ap (λ (b : A). fold f b l) (sym (h y refl a))

    both : (o : Option Constraint) → ((b : A) → fold f b (picked constraints (without c kept)) ≡ fold f b (picked constraints kept)) → fold f a (cons_option o (picked constraints (without c kept))) ≡ fold f a (cons_option o (picked constraints kept))
    both None rest = rest a
    both (Some y) rest = rest (f a y)
