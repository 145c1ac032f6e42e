-- Helping only: words of 64 bits, in which a set keeps its numbers.
use Rattle.std.proofs.Common.{◌∙◌, ◌≤◌, lit<, subst, sym, ⊎_elim}
use Rattle.std.proofs.Math.Nat.{mod-lt}
use Rattle.std.proofs.Math.Pow.{pow-lt}
use Rattle.std.proofs.lemmas.Bool.{cases_lt}
use Rattle.std.proofs.lemmas.List.{length-set, length-replicate, get_or_past}
use Rattle.std.proofs.lemmas.List.Elements.{All-set, All-replicate}
use Rattle.std.proofs.lemmas.Nat.{or_lt}
use Rattle.std.specs.Prelude.{◌≡◌, ℕ, ◌^◌, ◌<◌, ◌/◌, ◌%◌, ◌==◌, Bool, List, length, replicate, slice_index, slice_set, bit_or}
use Rattle.std.specs.Int.{bit_at}
use Rattle.std.specs.List.{All}

-- whether the words keep the number
abbrev pub has_bit : List ℕ → ℕ → Bool
has_bit words n = bit_at (slice_index words (n / 64)) (n % 64) == 1

-- whether no bit of a word is set from a place on
abbrev pub HasNoBit : ℕ → ℕ → Type 0
HasNoBit word from = (i : ℕ) → from ≤ i → bit_at word i ≡ 0

-- whether a place is the first from one on at which a bit of a word is set
pub record IsFirstBit (word from i : ℕ) : Type 0 where
  pub low : from ≤ i
  pub within : i < 64
  pub there : bit_at word i ≡ 1
  pub none : (j : ℕ) → from ≤ j → j < i → bit_at word j ≡ 0

-- the words with one more number
abbrev pub with_bit : List ℕ → ℕ → List ℕ
with_bit words n = slice_set words (n / 64) (bit_or (slice_index words (n / 64)) (2 ^ (n % 64)))

-- so many words of 64 bits each
pub record IsBits (count : ℕ) (words : List ℕ) : Type 0 where
  pub long : length words ≡ count
  pub fit : All (λ w. w < 2 ^ 64) words

pub IsBits-zero : (count : ℕ) → IsBits count (replicate count 0)
IsBits-zero count = record { long = length-replicate {A = ℕ} count 0; fit = All-replicate (λ w. w < 2 ^ 64) count 0 (lit< tt) }

word-lt : (count i : ℕ) (words : List ℕ) → IsBits count words → slice_index words i < 2 ^ 64
word-lt count i words h = ⊎_elim
    (λ (within : i < length words). h.fit i 0 within)
    (λ (past : length words ≤ i). let P : ℕ → Type 0 = λ w. w < 2 ^ 64 in subst P (sym (get_or_past words i 0 past)) (lit< tt))
    (cases_lt i (length words))

pub IsBits-with_bit : (count : ℕ) (words : List ℕ) (n : ℕ) → IsBits count words → IsBits count (with_bit words n)
IsBits-with_bit count words n h = record {
  long = length-set words (n / 64) _ ∙ h.long;
  fit = All-set (λ w. w < 2 ^ 64) words (n / 64) _ (or_lt 64 _ _ (word-lt count (n / 64) words h) (pow-lt (mod-lt n (lit< tt)))) h.fit;
}
