-- A number is read from its decimal text, and from no other.
use Rattle.std.proofs.Common.{◌^◌, Result, Err}
use Rattle.base.proofs.Public.{◌≡◌, ◌∙◌, ℕ, ◌<◌, true, false, List, length, slice_index, Some, None, Ok, sym, ap, arith, rules, lit<, inl, inr, cases_Bool, cases_eq, cases_lt, nat_tests, decimal-digits_value, digits_decimal, digits_value-decimal, decimal_nonempty, first_decimal, decimal_digit, IsAscii-from_digits, common_steps, OkIff-at_err, OkIff-at_ok, IsUtf8-from_ascii, IsNumeralModel, numerals_by_value, parse_digits, is_ascii_digit, decimal, list_all, IsUtf8, ParsesUnsigned, digits_value}
use Rattle.numerals.specs.Numbers.{is_numeral, number_of}

own : IsNumeralModel (λ ds. list_all is_ascii_digit ds ≡ true) (digits_value 10)
own = numerals_by_value _ (search rules)

-- what a numeral is
record Numeral (word : List ℕ) : Type 0 where
  some : 0 < length word
  first : slice_index word 0 ≡ 48 → length word ≡ 1
  digits : list_all is_ascii_digit word ≡ true

numeral : (word : List ℕ) → is_numeral word ≡ true → Numeral word
unfolding is_numeral
numeral word is = record {
  some = grind (arith, nat_tests, common_steps);
  first = λ zero. grind (arith, nat_tests, common_steps);
  digits = grind (arith, nat_tests, common_steps);
}

from_numeral : (word : List ℕ) → Numeral word → is_numeral word ≡ true
unfolding is_numeral
from_numeral word n =
    let some = n.some in
    let digits = n.digits in
    elim (cases_eq (slice_index word 0) 48) [
      | inl zero ↦ let single = n.first zero in grind (arith, nat_tests, common_steps)
      | inr other ↦ grind (arith, nat_tests, common_steps)
    ]

-- digits are text
pub IsUtf8-is_numeral : (word : List ℕ) → is_numeral word ≡ true → IsUtf8 word
IsUtf8-is_numeral word is = IsUtf8-from_ascii word (IsAscii-from_digits word (own.to word (numeral word is).digits))

fits : (word : List ℕ) → is_numeral word ≡ true → digits_value 10 word < 2 ^ 64 → number_of word ≡ Some (digits_value 10 word)
unfolding number_of
fits word is small = grind (arith, nat_tests, common_steps)

large : (word : List ℕ) → ¬ (digits_value 10 word < 2 ^ 64) → number_of word ≡ None
unfolding number_of
large word big = grind (arith, nat_tests, common_steps)

pub none_read : (word : List ℕ) → is_numeral word ≡ false → None ≡ number_of word
unfolding number_of
none_read word no_numeral = grind (arith, nat_tests, common_steps)

pub one_read : {E : Type 0} (word : List ℕ) (r : Result ℕ E) (n : ℕ) → is_numeral word ≡ true → ParsesUnsigned 64 10 word r → r ≡ Ok n → Some n ≡ number_of word
one_read word r n is parses good =
    let says = OkIff-at_ok r _ (digits_value 10 word) n (parse_digits own 64 word r parses (numeral word is).digits) good in
    rw says.1 (sym (fits word is says.0.1))

pub refused : {E : Type 0} (word : List ℕ) (r : Result ℕ E) (e : E) → is_numeral word ≡ true → ParsesUnsigned 64 10 word r → r ≡ Err e → None ≡ number_of word
refused word r e is parses bad =
    let says = OkIff-at_err r _ (digits_value 10 word) e (parse_digits own 64 word r parses (numeral word is).digits) bad in
    sym (large word (λ small. says ((numeral word is).some, small)))

-- the text of a number is digits alone
pub digits_of-decimal : (n : ℕ) → n < 2 ^ 64 → list_all is_ascii_digit (decimal n) ≡ true
digits_of-decimal n small = digits_decimal own n small

-- and a numeral
IsNumeral-decimal : (n : ℕ) → n < 2 ^ 64 → is_numeral (decimal n) ≡ true
IsNumeral-decimal n small = from_numeral (decimal n) (record {
  some = decimal_nonempty n small;
  first = λ zero. elim (cases_lt 0 n) [
    | inl above ↦ let high = first_decimal n above small in absurd (omega arith)
    | inr none ↦ let is : n ≡ 0 = omega arith in rw is (ap length (decimal_digit 0 (lit< tt)))
  ];
  digits = digits_of-decimal n small;
})

-- the text of a number is read as the number
pub number_of-decimal : (n : ℕ) → n < 2 ^ 64 → number_of (decimal n) ≡ Some n
number_of-decimal n small =
    let value : digits_value 10 (decimal n) ≡ n = digits_value-decimal own n small in
    let read : number_of (decimal n) ≡ Some (digits_value 10 (decimal n)) = fits (decimal n) (IsNumeral-decimal n small) (rw value small) in
    read ∙ ap (λ (k : ℕ). Some k) value

-- what is read of a word is a numeral that fits
read_cases : (word : List ℕ) (n : ℕ) → number_of word ≡ Some n → (is_numeral word ≡ true) × (digits_value 10 word < 2 ^ 64) × (digits_value 10 word ≡ n)
read_cases word n is =
    elim (cases_Bool (is_numeral word)) [
      | inr no_numeral ↦ let none = none_read word no_numeral in absurd (cc)
      | inl shaped ↦ elim (cases_lt (digits_value 10 word) (2 ^ 64)) [
        | inl small ↦ let read = fits word shaped small in (shaped, small, cc)
        | inr big ↦ let none = large word (λ small. absurd (omega arith)) in absurd (cc)
      ]
    ]

-- and what is read as a number is its text
pub decimal-number_of : (word : List ℕ) (n : ℕ) → number_of word ≡ Some n → (word ≡ decimal n) × (n < 2 ^ 64)
decimal-number_of word n is =
    let read = read_cases word n is in
    let shape = numeral word read.0 in
    let text : decimal (digits_value 10 word) ≡ word = decimal-digits_value own word shape.digits shape.some shape.first read.1 in
    (sym text ∙ ap decimal read.2, rw read.2 at read.1)
