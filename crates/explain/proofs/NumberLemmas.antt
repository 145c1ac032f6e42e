-- Ascending lists of numbers, and lists of numbers without one of them.
use Rattle.base.proofs.Public.{◌≡◌, ◌≢◌, inl, inr, ℕ, zero, suc, ◌<◌, ◌≤◌, ◌==◌, Bool, true, false, not, cond, List, [], ◌∷◌, length, slice_index, refl, ap, sym, ◌∙◌, arith, add-one, cases_Bool, eq-eqb, ne_eqb}
use Rattle.std.specs.Prelude.{All, filter}
use Rattle.std.specs.List.Sorted.{IsStrictlyIncreasing}
use Rattle.explain.specs.Prelude.{without}

-- each number of an ascending list is at least its place
place_le : (xs : List ℕ) → IsStrictlyIncreasing xs → (k : ℕ) → k < length xs → k ≤ slice_index xs k
place_le xs up zero lt = omega arith
place_le xs up (suc k) lt =
    let before = place_le xs up k (omega arith) in
    let next : slice_index xs k < slice_index xs (suc k) = rw add-one at (up k (omega arith)) in
    omega arith

-- so there are no more than the limit below which they are
pub few_below : (n : ℕ) (xs : List ℕ) → IsStrictlyIncreasing xs → All (λ c. c < n) xs → length xs ≤ n
few_below n [] up low = omega arith
few_below n (x ∷ xs) up low =
    let last = place_le (x ∷ xs) up (length xs) (omega arith) in
    let below = low (length xs) 0 (omega arith) in
    omega arith

-- ---- without one of them

-- what stands before the number stays in its place
pub same_before : (c : ℕ) (xs : List ℕ) (i : ℕ) → i ≤ length xs → ((j : ℕ) → j < i → slice_index xs j ≢ c) → (j : ℕ) → j < i →
    slice_index (without c xs) j ≡ slice_index xs j
same_before c [] i le other j lt = absurd (omega arith)
same_before c (x ∷ xs) zero le other j lt = absurd (omega arith)
same_before c (x ∷ xs) (suc i) le other zero lt = rw (ne_eqb x c (other 0 (omega arith))) refl
same_before c (x ∷ xs) (suc i) le other (suc j) lt =
    rw (ne_eqb x c (other 0 (omega arith))) (same_before c xs i (omega arith) (λ k l. other (suc k) (omega arith)) j (omega arith))

-- and no less is left
pub as_many_before : (c : ℕ) (xs : List ℕ) (i : ℕ) → i ≤ length xs → ((j : ℕ) → j < i → slice_index xs j ≢ c) → i ≤ length (without c xs)
as_many_before c xs zero le other = omega arith
as_many_before c [] (suc i) le other = absurd (omega arith)
as_many_before c (x ∷ xs) (suc i) le other =
    let rest = as_many_before c xs i (omega arith) (λ k l. other (suc k) (omega arith)) in
    rw (ne_eqb x c (other 0 (omega arith))) (omega arith)

no_more : (c : ℕ) (xs : List ℕ) → length (without c xs) ≤ length xs
no_more c [] = omega arith
no_more c (x ∷ xs) =
    let rest = no_more c xs in
    elim (cases_Bool (x == c)) [
      | inl is ↦ rw is (omega arith)
      | inr is ↦ rw is (omega arith)
    ]

-- a list that has the number gets shorter
pub shorter : (c : ℕ) (xs : List ℕ) (i : ℕ) → i < length xs → slice_index xs i ≡ c → length (without c xs) < length xs
shorter c [] i lt is = absurd (omega arith)
shorter c (x ∷ xs) zero lt is =
    let rest = no_more c xs in
    rw (eq-eqb x c is) (omega arith)
shorter c (x ∷ xs) (suc i) lt is =
    let rest = shorter c xs i (omega arith) is in
    elim (cases_Bool (x == c)) [
      | inl same ↦ rw same (omega arith)
      | inr other ↦ rw other (omega arith)
    ]

-- which of two numbers goes first does not matter
then_filtered : (p : ℕ → Bool) (b : Bool) (x : ℕ) (xs : List ℕ) → filter p (cond b (x ∷ xs) xs) ≡ cond b (cond (p x) (x ∷ filter p xs) (filter p xs)) (filter p xs)
then_filtered p true x xs = refl
then_filtered p false x xs = refl

both_tests : (a b : Bool) (l m : List ℕ) → cond a (cond b l m) m ≡ cond b (cond a l m) m
both_tests true true l m = refl
both_tests true false l m = refl
both_tests false true l m = refl
both_tests false false l m = refl

filters_swap : (p q : ℕ → Bool) (xs : List ℕ) → filter p (filter q xs) ≡ filter q (filter p xs)
filters_swap p q [] = refl
filters_swap p q (x ∷ xs) =
    then_filtered p (q x) x (filter q xs)
    ∙ ap (λ (l : List ℕ). cond (q x) (cond (p x) (x ∷ l) l) l) (filters_swap p q xs)
    ∙ both_tests (q x) (p x) (x ∷ filter q (filter p xs)) (filter q (filter p xs))
    ∙ sym (then_filtered q (p x) x (filter p xs))

pub either_first : (c d : ℕ) (xs : List ℕ) → without c (without d xs) ≡ without d (without c xs)
either_first c d xs = filters_swap (λ x. not (x == c)) (λ x. not (x == d)) xs
