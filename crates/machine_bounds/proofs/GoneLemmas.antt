-- Before when machines do not start at nodes.
use Rattle.base.proofs.Public.{◌≡◌, ◌⊎◌, inl, inr, ℕ, ◌<◌, ◌≤◌, true, List, [], length, filter, refl, sym, subst, ◌∙◌, arith, slice_index_or, cases_eq, cases_lt, Contains, nat_tests}
use Rattle.std.proofs.Common.{◌-◌, ◌*◌, ◌%◌, ◌^◌, w64}
use Rattle.std.specs.Prelude.{bit_or, slice_set}
use Rattle.std.specs.Int.{bit_at}
use Rattle.std.proofs.lemmas.Grind.{get_or-set_at}
use Rattle.std.proofs.lemmas.List.{get_or-set_other}
use Rattle.std.proofs.lemmas.Nat.Bits.{bit_at-zero, bit_at_set_other, bit_at_set_same}
use Rattle.domains.proofs.Public.{contains_filter}
use Rattle.domains.specs.declared.parts.Part.TheVariants.{From, Upto}
use Rattle.machine_bounds.specs.Prelude.{Act, AreGone, At, bound_count, Choice, gone_at, in_part, max_nodes, Sets, StartsFrom, vm}

-- ---- bits of words

-- the words with the bit b of word i
abbrev pub with_bit : List ℕ → ℕ → ℕ → List ℕ
with_bit ws i b = slice_set ws i (bit_or (slice_index_or ws i 0) (1 * 2 ^ b % 2 ^ 64))

-- it is set
pub bit_here : (ws : List ℕ) (i b : ℕ) → i < length ws → b < 64 → bit_at (slice_index_or (with_bit ws i b) i 0) b ≡ 1
bit_here ws i b low within = rw (get_or-set_at ws i i (bit_or (slice_index_or ws i 0) (1 * 2 ^ b % 2 ^ 64)) 0 refl low) (bit_at_set_same w64 (slice_index_or ws i 0) b within)

-- a bit that is set is that one, or was set before
pub bit_was : (ws : List ℕ) (i b j x : ℕ) → i < length ws → b < 64 → bit_at (slice_index_or (with_bit ws i b) j 0) x ≡ 1 → ((j ≡ i) × (x ≡ b)) ⊎ (bit_at (slice_index_or ws j 0) x ≡ 1)
bit_was ws i b j x low within on = elim (cases_eq j i) [
  | inl same ↦ elim (cases_eq x b) [
    | inl bit ↦ inl (same, bit)
    | inr other ↦ inr (rw same (sym (bit_at_set_other w64 (slice_index_or ws i 0) b within x other) ∙ (rw (get_or-set_at ws i j (bit_or (slice_index_or ws i 0) (1 * 2 ^ b % 2 ^ 64)) 0 same low) at on)))
  ]
  | inr other ↦ inr (rw (get_or-set_other ws i j (bit_or (slice_index_or ws i 0) (1 * 2 ^ b % 2 ^ 64)) 0 other) at on)
]

-- what was set is
pub bit_kept : (ws : List ℕ) (i b j x : ℕ) → i < length ws → b < 64 → bit_at (slice_index_or ws j 0) x ≡ 1 → bit_at (slice_index_or (with_bit ws i b) j 0) x ≡ 1
bit_kept ws i b j x low within on = elim (cases_eq j i) [
  | inl same ↦ elim (cases_eq x b) [
    | inl bit ↦ rw (same, bit) (bit_here ws i b low within)
    | inr other ↦ rw (get_or-set_at ws i j (bit_or (slice_index_or ws i 0) (1 * 2 ^ b % 2 ^ 64)) 0 same low) (bit_at_set_other w64 (slice_index_or ws i 0) b within x other ∙ (rw same at on))
  ]
  | inr other ↦ rw (get_or-set_other ws i j (bit_or (slice_index_or ws i 0) (1 * 2 ^ b % 2 ^ 64)) 0 other) on
]

-- ---- machines

pub nought_gone : (s : Sets) (bounds gs : List ℕ) → ((i : ℕ) → slice_index_or gs i 0 ≡ 0) → AreGone s bounds gs
nought_gone s bounds gs nought = record { each = λ v i low on. absurd (omega (arith, sym (bit_at-zero (i % 64)) ∙ (rw (nought (gone_at v i)) at on))) }

pub none_gone : (s : Sets) (bounds : List ℕ) → AreGone s bounds []
none_gone s bounds = record { each = λ v i low on. absurd (omega (arith, sym (bit_at-zero (i % 64)) ∙ on)) }

-- two words and bits that are the same are those of one machine and one bound
one-bit : (v i w j : ℕ) → i < bound_count → j < bound_count → gone_at w j ≡ gone_at v i → j % 64 ≡ i % 64 → (w ≡ v) × (j ≡ i)
one-bit v i w j low l word bit = (omega (arith, low, l, word, bit), omega (arith, low, l, word, bit))

pub gone_put : (s : Sets) (bounds gs : List ℕ) (v i : ℕ) → i < bound_count → gone_at v i < length gs → AreGone s bounds gs → StartsFrom (s (vm v)) (i % max_nodes) (slice_index_or bounds i 0) → AreGone s bounds (with_bit gs (gone_at v i) (i % 64))
gone_put s bounds gs v i low there was from = record {
  each = λ w j l on. elim (bit_was gs (gone_at v i) (i % 64) (gone_at w j) (j % 64) there (omega arith) on) [
    | inl same ↦ let one = one-bit v i w j low l same.0 same.1 in rw (one.0, one.1) from
    | inr before ↦ was.each w j l before
  ];
}

-- of fewer choices they are as right
pub gone_fewer : (s old : Sets) (bounds gs : List ℕ) → AreGone old bounds gs → ((v : ℕ) (c : Choice) → Contains (s (vm v)) c → Contains (old (vm v)) c) → AreGone s bounds gs
gone_fewer s old bounds gs was fewer = record { each = λ v i low on. record { late = λ start h. (was.each v i low on).late start (fewer v (Act (At (record { 0 = i % max_nodes })) start) h) } }

-- where nothing is left of all starts at a node there is none, so also none before an instant
pub none_ever : (cs : List Choice) (n from : ℕ) → filter (in_part (From (At (record { 0 = n })) 0)) cs ≡ [] → StartsFrom cs n from
none_ever cs n from empty = record {
  late = λ start h.
      let inside : in_part (From (At (record { 0 = n })) 0) (Act (At (record { 0 = n })) start) ≡ true = grind (arith, nat_tests) in
      let there = subst (λ xs. Contains xs (Act (At (record { 0 = n })) start)) empty (contains_filter (in_part (From (At (record { 0 = n })) 0)) cs (Act (At (record { 0 = n })) start) h inside) in
      absurd (omega (arith, there.1));
}

-- and where nothing is left of those up to the instant before
pub none_before : (cs : List Choice) (n from : ℕ) → 0 < from → filter (in_part (Upto (At (record { 0 = n })) (from - 1))) cs ≡ [] → StartsFrom cs n from
none_before cs n from some empty = record { late = λ start h. elim (cases_lt start from) [ inr late ↦ late | inl early ↦ absurd (before start h early) ] }
  where
    before : (start : ℕ) → Contains cs (Act (At (record { 0 = n })) start) → start < from → ⊥
    before start h early =
        let l : start ≤ from - 1 = omega (arith, early) in
        let inside : in_part (Upto (At (record { 0 = n })) (from - 1)) (Act (At (record { 0 = n })) start) ≡ true = grind (arith, nat_tests, l) in
        let there = subst (λ xs. Contains xs (Act (At (record { 0 = n })) start)) empty (contains_filter (in_part (Upto (At (record { 0 = n })) (from - 1))) cs (Act (At (record { 0 = n })) start) h inside) in
        omega (arith, there.1)
