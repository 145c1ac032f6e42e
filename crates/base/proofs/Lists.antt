-- Lists read at a place: copies of one value, and items that pass a test.
use Rattle.std.proofs.Common.{◌≡◌, inl, inr, ℕ, zero, suc, Bool, true, List, [], ◌∷◌, replicate, slice_index_or, arith}
use Rattle.std.proofs.lemmas.Bool.{and_parts, cases_lt}
use Rattle.std.proofs.lemmas.List.{get_or-replicate, get_or_past, length-replicate}
use Rattle.std.specs.List.{list_all}

-- copies of a value, read at any place, where past the end the same value stands
pub copies_at : {A : Type 0} (n i : ℕ) (a : A) → slice_index_or (replicate n a) i a ≡ a
copies_at n i a =
    elim (cases_lt i n) [ inl low ↦ get_or-replicate n i a a low | inr past ↦ get_or_past (replicate n a) i a (omega (arith, length-replicate n a)) ]

-- where all items and the default pass a test, what is read at any place passes it
pub item_passes : {A : Type 0} (test : A → Bool) (default : A) → test default ≡ true → (xs : List A) (i : ℕ) → list_all test xs ≡ true → test (slice_index_or xs i default) ≡ true
item_passes test default pass [] i all = pass
item_passes test default pass (x ∷ xs) zero all = (and_parts (test x) (list_all test xs) all).0
item_passes test default pass (x ∷ xs) (suc i) all = item_passes test default pass xs i (and_parts (test x) (list_all test xs) all).1
