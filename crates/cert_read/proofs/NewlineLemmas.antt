-- How many bytes come before the first newline.
use Rattle.base.proofs.Public.{◌≡◌, ◌∙◌, ℕ, ◌+◌, ◌<◌, ◌≤◌, ◌==◌, Bool, true, false, not, List, [], ◌∷◌, ◌++◌, length, Some, None, refl, sym, arith, inl, inr, cases_lt, nat_tests, common_steps, prefix_len-le-length, position, position_or_len, if◌then◌else◌}
use Rattle.cert_read.specs.Lines.{bytes_before_newline}

pub position_found : (bytes : List ℕ) (n : ℕ) → position (λ b. b == 10) bytes ≡ Some n → n ≡ bytes_before_newline bytes
unfolding bytes_before_newline
position_found bytes n is =
    elim (cases_lt (position_or_len (λ b. b == 10) bytes) (length bytes)) [
      | inl within ↦ grind (arith, nat_tests, common_steps)
      | inr past ↦ grind (arith, nat_tests, common_steps)
    ]

pub position_none : (bytes : List ℕ) → position (λ b. b == 10) bytes ≡ None → length bytes ≡ bytes_before_newline bytes
unfolding bytes_before_newline
position_none bytes is =
    let le = prefix_len-le-length (λ (b : ℕ). not (b == 10)) bytes in
    elim (cases_lt (position_or_len (λ b. b == 10) bytes) (length bytes)) [
      | inl within ↦ grind (arith, nat_tests, common_steps)
      | inr past ↦ omega arith
    ]

pub ruleset newline_rules = (position_found, position_none)

-- at most all of them
pub before_le : (bytes : List ℕ) → bytes_before_newline bytes ≤ length bytes
unfolding bytes_before_newline
before_le bytes = prefix_len-le-length (λ b. not (b == 10)) bytes

-- one byte more at the start
pub step_by : (b : ℕ) (bytes : List ℕ) (test : Bool) → (b == 10) ≡ test → bytes_before_newline (b ∷ bytes) ≡ (if test then 0 else 1 + bytes_before_newline bytes)
unfolding bytes_before_newline
step_by b bytes true is = rw is refl
step_by b bytes false is = rw is refl

both_by : (b : ℕ) (xs ys : List ℕ) (test : Bool) → (b == 10) ≡ test → bytes_before_newline (b ∷ xs) ≡ length (b ∷ xs) →
    (bytes_before_newline xs ≡ length xs → bytes_before_newline (xs ++ ys) ≡ length xs + bytes_before_newline ys) → bytes_before_newline (b ∷ (xs ++ ys)) ≡ length (b ∷ xs) + bytes_before_newline ys
both_by b xs ys true is none rest = let here = step_by b xs true is in absurd (omega arith)
both_by b xs ys false is none rest =
    let here = step_by b xs false is in
    let there = step_by b (xs ++ ys) false is in
    let more = rest (omega arith) in
    omega arith

first_by : (b : ℕ) (xs ys : List ℕ) (test : Bool) → (b == 10) ≡ test → bytes_before_newline (b ∷ xs) < length (b ∷ xs) →
    (bytes_before_newline xs < length xs → bytes_before_newline (xs ++ ys) ≡ bytes_before_newline xs) → bytes_before_newline (b ∷ (xs ++ ys)) ≡ bytes_before_newline (b ∷ xs)
first_by b xs ys true is some rest = step_by b (xs ++ ys) true is ∙ sym (step_by b xs true is)
first_by b xs ys false is some rest =
    let here = step_by b xs false is in
    let there = step_by b (xs ++ ys) false is in
    let more = rest (omega arith) in
    omega arith

-- no newline in the first of two lists
pub before_both : (xs ys : List ℕ) → bytes_before_newline xs ≡ length xs → bytes_before_newline (xs ++ ys) ≡ length xs + bytes_before_newline ys
before_both [] ys none = grind arith
before_both (b ∷ xs) ys none = both_by b xs ys (b == 10) refl none (before_both xs ys)

-- a newline in the first of two lists
pub before_first : (xs ys : List ℕ) → bytes_before_newline xs < length xs → bytes_before_newline (xs ++ ys) ≡ bytes_before_newline xs
before_first [] ys some = absurd (omega arith)
before_first (b ∷ xs) ys some = first_by b xs ys (b == 10) refl some (before_first xs ys)
