-- Digits: the text of a number from its end on, and a number of one digit.
use Rattle.std.proofs.lemmas.Fmt.{decimal_step, decimal_digit}
use Rattle.std.proofs.lemmas.Bool.{eqb-true}
use Rattle.std.specs.Char.{is_ascii_digit}
use Rattle.base.proofs.Public.{◌≡◌, ◌∙◌, ℕ, ◌+◌, ◌-◌, ◌/◌, ◌%◌, ◌^◌, ◌<◌, ◌≤◌, ◌++◌, ◌==◌, true, List, [], ◌∷◌, length, take, Some, sym, ap, arith, common_steps, nat_tests, decimal, take_more, take_all, length-take-le, slice_index_or}
use Rattle.numerals.proofs.Public.{number_of-decimal}
use Rattle.numerals.specs.Numbers.{number_of}

module _ (rest bytes : List ℕ) (left number digit : ℕ) (some : 1 ≤ length rest) (so_far : rest ≡ decimal left → bytes ≡ decimal number) (same : slice_index_or rest (length rest - 1) 0 ≡ digit) (is : digit ≡ 48 + left % 10) where
  cut : rest ≡ take (length rest - 1) rest ++ (48 + left % 10) ∷ []
  cut =
      let long : length rest - 1 + 1 ≡ length rest = omega (arith, some) in
      let whole : take (length rest - 1 + 1) rest ≡ rest = ap (λ (n : ℕ). take n rest) long ∙ take_all (length rest) rest (omega arith) in
      sym whole ∙ take_more rest (length rest - 1) 0 (omega (arith, some)) ∙ ap (λ (d : ℕ). take (length rest - 1) rest ++ d ∷ []) (same ∙ is)

  -- one more digit is taken from the end
  pub digit_taken : left < 2 ^ 64 → 10 ≤ left → take (length rest - 1) rest ≡ decimal (left / 10) → bytes ≡ decimal number
  digit_taken small more front = so_far (cut ∙ ap (λ (l : List ℕ). l ++ (48 + left % 10) ∷ []) front ∙ sym (decimal_step left more small))

  -- the last digit that is left
  pub digit_last : left < 10 → (length (take (length rest - 1) rest) == 0) ≡ true → bytes ≡ decimal number
  digit_last small none =
      let one : length rest - 1 ≡ 0 = sym (length-take-le (length rest - 1) rest (omega arith)) ∙ eqb-true (length (take (length rest - 1) rest)) 0 none in
      let itself : left % 10 ≡ left = omega (arith, small) in
      let front : take (length rest - 1) rest ≡ [] = ap (λ (n : ℕ). take n rest) one in
      so_far (cut ∙ ap (λ (l : List ℕ). l ++ (48 + left % 10) ∷ []) front ∙ ap (λ (d : ℕ). (48 + d) ∷ []) itself ∙ sym (decimal_digit left small))

-- a digit is read as what it stands for
digit_alone : (b : ℕ) → 48 ≤ b → b < 58 → Some (b - 48) ≡ number_of (b ∷ [])
digit_alone b low high =
    let text : decimal (b - 48) ≡ b ∷ [] = decimal_digit (b - 48) (omega (arith, low, high)) ∙ ap (λ (d : ℕ). d ∷ []) (omega (arith, low)) in
    sym (ap number_of (sym text) ∙ number_of-decimal (b - 48) (omega (arith, high)))

digit_bounds : (b : ℕ) → is_ascii_digit b ≡ true → (48 ≤ b) × (b < 58)
digit_bounds b is = (grind (arith, nat_tests, common_steps), grind (arith, nat_tests, common_steps))

pub one_digit : (bs : List ℕ) → 1 ≤ length bs → length bs < 2 → is_ascii_digit (slice_index_or bs 0 0) ≡ true → Some (slice_index_or bs 0 0 - 48) ≡ number_of bs
one_digit [] some few digit = absurd (omega arith)
one_digit (b ∷ []) some few digit = let bounds = digit_bounds b digit in digit_alone b bounds.0 bounds.1
one_digit (b ∷ c ∷ bs) some few digit = absurd (omega arith)
