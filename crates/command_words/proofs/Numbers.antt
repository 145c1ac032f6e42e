-- Which words are a number.
use Rattle.base.proofs.Public.{◌≡◌, ◌≢◌, ℕ, zero, suc, ◌<◌, ◌==◌, ◌&&◌, Bool, true, false, not, List, [], ◌∷◌, length, get_or, nat_lt, Some, None, Ok, refl, sym, ap, ◌∙◌, arith, common_steps, lt-ltb, ltb-true, and_parts, decimal-digits_value, decimal_digit, first_decimal, parse-decimal, decimal_nonempty, OkIff-at_ok, bytes_eq-Decides, IsNumeralModel, numerals_by_value, tells_digits, parse_plain, decimal, bytes_eq, AllDigits, ParsesUnsigned, digits_value, ◌^◌, Result, Err, if◌then◌else◌}
use Rattle.command_words.specs.Words.{is_plain, number_of}

own : IsNumeralModel (AllDigits 10) (digits_value 10)
own = numerals_by_value (AllDigits 10) tells_digits

-- a plain word begins with no plus, and with no zero before another digit
plain_start : (bs : List ℕ) → is_plain bs ≡ true → (get_or bs 0 0 ≢ 43) × (get_or bs 0 0 ≡ 48 → length bs ≡ 1)
plain_start [] h = absurd (cc)
plain_start (x ∷ []) h = (λ (e : x ≡ 43). grind (arith, common_steps), λ _. refl)
plain_start (x ∷ y ∷ rest) h =
    let sides = and_parts (not (x == 43)) (not (x == 48)) h in
    (λ (e : x ≡ 43). grind (arith, common_steps), λ (e : x ≡ 48). absurd (grind (arith, common_steps)))

plain_from : (bs : List ℕ) → 0 < length bs → 48 < get_or bs 0 0 → is_plain bs ≡ true
plain_from [] some first = absurd (omega arith)
plain_from (x ∷ []) some first = grind (arith, common_steps)
plain_from (x ∷ y ∷ rest) some first =
    let a : (x == 43) ≡ false = grind (arith, common_steps) in
    let b : (x == 48) ≡ false = grind (arith, common_steps) in
    rw (a, b) refl

plain_decimal : (n : ℕ) → n < 2 ^ 64 → is_plain (decimal n) ≡ true
plain_decimal zero small = rw (decimal_digit 0 (omega arith)) refl
plain_decimal (suc n) small = plain_from (decimal (suc n)) (decimal_nonempty (suc n) small) (first_decimal (suc n) (omega arith) small)

pub number_read : {E : Type 0} (bs : List ℕ) (n : ℕ) (r : Result ℕ E) → ParsesUnsigned 64 10 bs r → r ≡ Ok n → is_plain bs ≡ true → number_of bs ≡ Some n
unfolding number_of
number_read bs n r parses is plain =
    let start = plain_start bs plain in
    let at = OkIff-at_ok r (AllDigits 10 bs × (0 < length bs) × (digits_value 10 bs < 2 ^ 64)) (digits_value 10 bs) n (parse_plain own 64 bs r parses start.0) is in
    let text : decimal (digits_value 10 bs) ≡ bs = decimal-digits_value own bs at.0.0 at.0.1 start.1 at.0.2 in
    let small : nat_lt (digits_value 10 bs) (2 ^ 64) ≡ true = lt-ltb (digits_value 10 bs) (2 ^ 64) at.0.2 in
    let same : bytes_eq bs (decimal (digits_value 10 bs)) ≡ true = (bytes_eq-Decides bs (decimal (digits_value 10 bs))).1 (sym text) in
    rw (small, same) (ap Some (sym at.1))

no_number : (bs : List ℕ) → (digits_value 10 bs < 2 ^ 64 → bs ≡ decimal (digits_value 10 bs) → ⊥) → number_of bs ≡ None
unfolding number_of
no_number bs never = by (nat_lt (digits_value 10 bs) (2 ^ 64)) (bytes_eq bs (decimal (digits_value 10 bs))) refl refl
  where
    by : (a b : Bool) → nat_lt (digits_value 10 bs) (2 ^ 64) ≡ a → bytes_eq bs (decimal (digits_value 10 bs)) ≡ b → (if a && b then Some (digits_value 10 bs) else None) ≡ None
    by true true small same = absurd (never (ltb-true (digits_value 10 bs) (2 ^ 64) small) ((bytes_eq-Decides bs (decimal (digits_value 10 bs))).0 same))
    by true false small same = refl
    by false b small same = refl

pub number_unread : {E : Type 0} (bs : List ℕ) (e : E) (r : Result ℕ E) → ParsesUnsigned 64 10 bs r → r ≡ Err e → number_of bs ≡ None
number_unread bs e r parses is = no_number bs (λ small same. let read : r ≡ Ok (digits_value 10 bs) = parse-decimal 64 (digits_value 10 bs) bs r small small same parses in cc)

pub number_signed : (bs : List ℕ) → is_plain bs ≡ false → number_of bs ≡ None
number_signed bs other = no_number bs (λ small same. let plain : is_plain bs ≡ true = ap is_plain same ∙ plain_decimal (digits_value 10 bs) small in cc)

pub ruleset number_rules = (number_read, number_unread, number_signed)
