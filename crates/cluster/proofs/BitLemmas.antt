-- The bits of words.
use Rattle.std.proofs.Common.{◌^◌, get_or-set_same, get_or-set_other}
use Rattle.base.proofs.Public.{ap, ◌+◌, ◌-◌, ◌≤◌, ◌≡◌, ◌≢◌, ℕ, ◌<◌, ◌/◌, ◌%◌, ◌*◌, ◌||◌, ◌==◌, ◌∙◌, zero, suc, false, List, length, replicate, slice_index, refl, sym, arith, ⊎_elim, bit_at, trailing_zeros, w64, lt-div-mul-add, pow-lt, cases_eq, cases_lt, common_steps, ext_get_or, get_or_past, shr-shr, shr_le, pow_pos, bit_at_set_same, bit_at_set_other, same_from_bits_below, bit_at-lt, bit_at-trailing_zeros, bit_at-zero, bit_at_above}
use Rattle.cluster.specs.Bits.{HasNoBit, IsFirstBit, has_bit, with_bit, IsBits}

-- a bit within a word, as code shifts it
pub one_shl : (n : ℕ) → 1 * 2 ^ (n % 64) % 2 ^ 64 ≡ 2 ^ (n % 64)
one_shl n = by (n % 64) (omega arith)
  where
    by : (k : ℕ) → k < 64 → 1 * 2 ^ k % 2 ^ 64 ≡ 2 ^ k
    by k lt = let below : 2 ^ k < 2 ^ 64 = pow-lt lt in omega arith

-- no bit is set in words of 0
none-at : (count i : ℕ) → slice_index (replicate count 0) i ≡ 0
none-at zero i = refl
none-at (suc count) zero = refl
none-at (suc count) (suc i) = none-at count i

pub has_bit-zero : (count n : ℕ) → has_bit (replicate count 0) n ≡ false
has_bit-zero count n = rw (none-at count (n / 64)) (grind (arith, common_steps))

-- and none past the words
pub has_bit-past : (words : List ℕ) (n : ℕ) → length words ≤ n / 64 → has_bit words n ≡ false
has_bit-past words n le = ap (λ w. bit_at w (n % 64) == 1) (get_or_past words (n / 64) 0 le) ∙ ap (λ b. b == 1) (bit_at-zero (n % 64))

-- the bits of the words after one is set
pub has_bit-with_bit : (words : List ℕ) (n m : ℕ) → n / 64 < length words → has_bit (with_bit words n) m ≡ ((m == n) || has_bit words m)
has_bit-with_bit words n m within =
    let small : n % 64 < 64 = omega arith in
    rw (← one_shl n) (⊎_elim
    (λ (same : m / 64 ≡ n / 64). ⊎_elim
    (λ (here : m % 64 ≡ n % 64).
    let one : m ≡ n = omega arith in
    rw one (rw get_or-set_same (rw (bit_at_set_same w64 _ _ small) (grind arith))))
    (λ (other : m % 64 ≢ n % 64).
    let two : m ≢ n = grind arith in
    rw same (rw get_or-set_same (rw (bit_at_set_other w64 _ _ small _ other) (grind arith))))
    (cases_eq (m % 64) (n % 64)))
    (λ (apart : m / 64 ≢ n / 64). let two : m ≢ n = grind arith in rw get_or-set_other (grind arith))
    (cases_eq (m / 64) (n / 64)))

-- a word has no bit past its 64
pub past_word : (w from : ℕ) → w < 2 ^ 64 → 64 ≤ from → HasNoBit w from
past_word w from fits le i low = bit_at_above w 64 i fits (omega arith)

-- nor from a place on where nothing is left once it is shifted that far
pub none_shifted : (w from : ℕ) → w / 2 ^ from ≡ 0 → HasNoBit w from
none_shifted w from none i low =
    let below : w < 0 * 2 ^ from + 2 ^ from = rw none at (lt-div-mul-add {a = w} {b = 2 ^ from} (pow_pos from)) in
    bit_at_above w from i (omega arith) low

-- and else the first is the lowest of what is left
pub first_shifted : (w from : ℕ) → w < 2 ^ 64 → w / 2 ^ from ≢ 0 → IsFirstBit w from (from + trailing_zeros w64 (w / 2 ^ from))
first_shifted w from fits some = record { low = omega arith; within = within; there = there; none = none }
  where
    lowest : (trailing_zeros w64 (w / 2 ^ from) < 64) × (bit_at (w / 2 ^ from) (trailing_zeros w64 (w / 2 ^ from)) ≡ 1) × ((i : ℕ) → i < trailing_zeros w64 (w / 2 ^ from) → bit_at (w / 2 ^ from) i ≡ 0)
    lowest = bit_at-trailing_zeros w64 (w / 2 ^ from) (omega (arith, some)) (omega (arith, shr_le w from))

    shifted : (i : ℕ) → bit_at (w / 2 ^ from) i ≡ bit_at w (from + i)
    shifted i = ap (λ x. x % 2) (shr-shr w from i)

    there : bit_at w (from + trailing_zeros w64 (w / 2 ^ from)) ≡ 1
    there = sym (shifted _) ∙ lowest.1

    within : from + trailing_zeros w64 (w / 2 ^ from) < 64
    within = ⊎_elim
        (λ (lt : from + trailing_zeros w64 (w / 2 ^ from) < 64). lt)
        (λ (ge : 64 ≤ from + trailing_zeros w64 (w / 2 ^ from)). let no : bit_at w (from + trailing_zeros w64 (w / 2 ^ from)) ≡ 0 = bit_at_above w 64 _ fits ge in absurd (omega (arith, no, there)))
        (cases_lt (from + trailing_zeros w64 (w / 2 ^ from)) 64)

    none : (j : ℕ) → from ≤ j → j < from + trailing_zeros w64 (w / 2 ^ from) → bit_at w j ≡ 0
    none j low lt =
        let split : from + (j - from) ≡ j = omega arith in
        ap (bit_at w) (sym split) ∙ sym (shifted (j - from)) ∙ lowest.2 (j - from) (omega (arith, lt))

-- two words are equal where they have the same bits
same_word : (v w : ℕ) → v < 2 ^ 64 → w < 2 ^ 64 → ((j : ℕ) → j < 64 → bit_at v j == 1 ≡ (bit_at w j == 1)) → v ≡ w
same_word v w small less same = same_from_bits_below 64 v w small less (λ j lt. one_bit _ _ (bit_at-lt v j) (bit_at-lt w j) (same j lt))
  where
    one_bit : (a b : ℕ) → a < 2 → b < 2 → a == 1 ≡ (b == 1) → a ≡ b
    one_bit a b ha hb e = grind (arith, common_steps)

-- and so many words
pub same_words : (count : ℕ) (vs ws : List ℕ) → IsBits count vs → IsBits count ws → ((m : ℕ) → has_bit vs m ≡ has_bit ws m) → vs ≡ ws
same_words count vs ws a b same = ext_get_or 0 vs ws (a.long ∙ sym b.long) word
  where
    word : (i : ℕ) → i < length vs → slice_index vs i ≡ slice_index ws i
    word i lt = same_word _ _ (a.fit i 0 lt) (b.fit i 0 (omega (arith, a.long, b.long))) bit
      where
        bit : (j : ℕ) → j < 64 → bit_at (slice_index vs i) j == 1 ≡ (bit_at (slice_index ws i) j == 1)
        bit j h =
            let place : (64 * i + j) / 64 ≡ i = omega arith in
            let rest : (64 * i + j) % 64 ≡ j = omega arith in
            let here : has_bit vs (64 * i + j) ≡ has_bit ws (64 * i + j) = same (64 * i + j) in
            rw (place, rest) at here
