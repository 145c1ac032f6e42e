-- When nodes are given up, and which bounds are known.
use Rattle.base.proofs.Public.{◌≡◌, ◌⊎◌, inl, inr, ℕ, ◌+◌, ◌<◌, ◌≤◌, List, length, arith, slice_index_or, cases_lt}
use Rattle.std.proofs.Common.{◌*◌, ◌/◌, ◌%◌, ◌^◌, w64}
use Rattle.std.specs.Prelude.{bit_and, bit_or}
use Rattle.std.specs.Int.{bit_at, bit_not, trailing_zeros}
use lib.Bits.{or_lt}
use Rattle.std.proofs.lemmas.Nat.Bits.{bit_at-lt, bit_at-trailing_zeros, bit_at_and, bit_at_not, bit_at_or}
use Rattle.machine_bounds.specs.Prelude.{bound_count, gone_at, IsKnown, max_nodes}
use Rattle.machine_bounds.proofs.GoneLemmas.{bit_here, bit_kept, bit_was, with_bit}

-- ---- bits of nodes and of bounds

-- the bit of one node more, that is given up after an instant
pub bits_more : (us ws : List ℕ) (from n : ℕ) → n / 64 < length ws → ((k : ℕ) → k < n → from < slice_index_or us k 0 → bit_at (slice_index_or ws (k / 64) 0) (k % 64) ≡ 1) → (k : ℕ) → k < n + 1 → from < slice_index_or us k 0 → bit_at (slice_index_or (with_bit ws (n / 64) (n % 64)) (k / 64) 0) (k % 64) ≡ 1
bits_more us ws from n low before k l ends = elim (cases_lt k n) [
  | inl early ↦ bit_kept ws (n / 64) (n % 64) (k / 64) (k % 64) low (omega arith) (before k early ends)
  | inr later ↦ let same : k ≡ n = omega (arith, later, l) in rw same (bit_here ws (n / 64) (n % 64) low (omega arith))
]

-- a node more that is not
pub bits_still : (us ws : List ℕ) (from n : ℕ) → slice_index_or us n 0 ≤ from → ((k : ℕ) → k < n → from < slice_index_or us k 0 → bit_at (slice_index_or ws (k / 64) 0) (k % 64) ≡ 1) → (k : ℕ) → k < n + 1 → from < slice_index_or us k 0 → bit_at (slice_index_or ws (k / 64) 0) (k % 64) ≡ 1
bits_still us ws from n none before k l ends = elim (cases_lt k n) [
  | inl early ↦ before k early ends
  | inr later ↦ let same : k ≡ n = omega (arith, later, l) in absurd (omega (arith, none, rw same at ends))
]

-- the bit of one bound more, that is enough
pub enough_more : (us bounds ws : List ℕ) (i : ℕ) → i / 64 < length ws → slice_index_or us (i % max_nodes) 0 ≤ slice_index_or bounds i 0 → ((j : ℕ) → bit_at (slice_index_or ws (j / 64) 0) (j % 64) ≡ 1 → slice_index_or us (j % max_nodes) 0 ≤ slice_index_or bounds j 0) → (j : ℕ) → bit_at (slice_index_or (with_bit ws (i / 64) (i % 64)) (j / 64) 0) (j % 64) ≡ 1 → slice_index_or us (j % max_nodes) 0 ≤ slice_index_or bounds j 0
enough_more us bounds ws i low here before j on = elim (bit_was ws (i / 64) (i % 64) (j / 64) (j % 64) low (omega arith) on) [
  | inl same ↦ let one : j ≡ i = omega (arith, same.0, same.1) in rw one here
  | inr was ↦ before j was
]

-- ---- words

-- a bit of what is wanted that is not left is in one of two words
pub bit_known : (a b c i : ℕ) → b < 2 ^ 64 → c < 2 ^ 64 → i < 64 → bit_at (bit_and a (bit_not w64 (bit_or b c))) i ≡ 0 → bit_at a i ≡ 1 → (bit_at b i ≡ 1) ⊎ (bit_at c i ≡ 1)
bit_known a b c i small short low off on =
    let known : bit_at (bit_or b c) i ≡ 1 = omega (arith, off, on, bit_at_and a (bit_not w64 (bit_or b c)) i, bit_at_not w64 (bit_or b c) i (or_lt 64 b c small short) low, bit_at-lt (bit_or b c) i) in
    elim (cases_lt 0 (bit_at b i)) [
      | inl some ↦ inl (omega (arith, some, bit_at-lt b i))
      | inr none ↦ inr (omega (arith, none, known, bit_at_or b c i))
    ]

-- no bit before the first one is set
pub first_set : (word : ℕ) → 0 < word → word < 2 ^ 64 → (trailing_zeros w64 word < 64) × ((i : ℕ) → i < trailing_zeros w64 word → bit_at word i ≡ 0)
first_set word some fits = let h = bit_at-trailing_zeros w64 word some fits in (h.0, h.2)

-- where each bit of some that is wanted is in one of two words within the bounds that are enough, its node is known
pub known_before : (gs es : List ℕ) (w k n wanted left : ℕ) → k < 8 → 64 * k ≤ n → n < 64 * k + 64 → bit_at wanted (n % 64) ≡ 1 → bit_at left (n % 64) ≡ 0 → ((i : ℕ) → i < 64 → bit_at left i ≡ 0 → bit_at wanted i ≡ 1 → (bit_at (bit_and (slice_index_or gs (w * 16 + k) 0) (slice_index_or es k 0)) i ≡ 1) ⊎ (bit_at (bit_and (slice_index_or gs (w * 16 + 8 + k) 0) (slice_index_or es (8 + k) 0)) i ≡ 1)) → IsKnown gs es w n
known_before gs es w k n wanted left low after within on off each = elim (each (n % 64) (omega arith) off on) [
  | inl first ↦ at n (n % 64) (w * 16 + k) k (omega (arith, within, low)) (omega (arith, within, low)) (omega arith) (omega (arith, after, within)) (omega (arith, after, within)) first
  | inr second ↦ at (512 + n) (n % 64) (w * 16 + 8 + k) (8 + k) (omega (arith, within, low)) (omega (arith, within, low)) (omega arith) (omega (arith, after, within)) (omega (arith, after, within)) second
]
  where
    both : (a b i : ℕ) → bit_at (bit_and a b) i ≡ 1 → (bit_at a i ≡ 1) × (bit_at b i ≡ 1)
    both a b i h = (omega (arith, h, bit_at_and a b i, bit_at-lt a i), omega (arith, h, bit_at_and a b i, bit_at-lt b i))

    at : (bound bit word e : ℕ) → bound < bound_count → bound % max_nodes ≡ n → bound % 64 ≡ bit → gone_at w bound ≡ word → bound / 64 ≡ e → bit_at (bit_and (slice_index_or gs word 0) (slice_index_or es e 0)) bit ≡ 1 → IsKnown gs es w n
    at bound bit word e below node same there enough h =
        let two = both (slice_index_or gs word 0) (slice_index_or es e 0) bit h in
        record { bound = bound; low = below; node = node; gone = rw (there, same) two.0; enough = rw (enough, same) two.1 }
