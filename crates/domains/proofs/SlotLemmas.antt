-- Free slots, and then rows.
use Rattle.base.proofs.Public.{◌≡◌, ℕ, zero, suc, ◌+◌, ◌<◌, ◌≤◌, List, [], ◌∷◌, ◌++◌, length, set, take, drop, refl, sym, ap, ◌∙◌, append_assoc, arith, insert, remove, refill, length-paste, paste, drop-drop, drop-set-add, drop_at, length-drop, length-set, length-take-le, set_at, take_at}
use Rattle.domains.specs.declared.parts.Row.{Row}

remove_none : (i : ℕ) → let none : List Row = [] in none ≡ remove none i
remove_none zero = refl
remove_none (suc i) = refl

-- past what is free, an edit is one of the rows
pub drop_remove : (free : ℕ) (slots : List Row) (i : ℕ) → drop free (remove slots (free + i)) ≡ remove (drop free slots) i
drop_remove free slots i = at free slots (free + i) refl
  where
    at : (free : ℕ) (slots : List Row) (n : ℕ) → n ≡ free + i → drop free (remove slots n) ≡ remove (drop free slots) i
    at zero slots n e = ap (remove slots) (omega arith)
    at (suc free) slots zero e = absurd (omega arith)
    at (suc free) [] (suc n) e = remove_none i
    at (suc free) (s ∷ slots) (suc n) e = at free slots n (omega arith)

pub drop_insert : (free : ℕ) (slots : List Row) (i : ℕ) (r : Row) → free ≤ length slots → drop free (insert slots (free + i) r) ≡ insert (drop free slots) i r
drop_insert free slots i r l = at free slots (free + i) refl l
  where
    at : (free : ℕ) (slots : List Row) (n : ℕ) → n ≡ free + i → free ≤ length slots → drop free (insert slots n r) ≡ insert (drop free slots) i r
    at zero slots n e l = ap (λ k. insert slots k r) (omega arith)
    at (suc free) slots zero e l = absurd (omega arith)
    at (suc free) [] (suc n) e l = absurd (omega arith)
    at (suc free) (s ∷ slots) (suc n) e l = at free slots n (omega arith) (omega arith)

pub drop_set : (free : ℕ) (slots : List Row) (i : ℕ) (r : Row) → drop free (set slots (free + i) r) ≡ set (drop free slots) i r
drop_set free slots i r = drop-set-add free slots i r

-- what is written back of all slots is all
refilled : (slots after : List Row) → length after ≡ length slots → refill (length slots) slots after ≡ after
refilled slots after len = take_at after (drop (length after) slots) (length slots) len

pasted : (d : List Row) (at : ℕ) (s : List Row) (n : ℕ) → at ≤ length d → drop at (paste d at s n) ≡ take n s ++ drop (at + n) d
pasted d at s n l =
    ap (drop at) (append_assoc (take at d) (take n s) (drop (at + n) d)) ∙ drop_at (take at d) (take n s ++ drop (at + n) d) at (length-take-le at d l)

up : (slots : List Row) (free i : ℕ) → free + i < length slots → drop (free + 1) (paste slots (free + 1) (drop free slots) i) ≡ remove (drop free slots) i
up slots free i l =
    let same : (free + 1) + i ≡ free + suc i = omega arith in
    pasted slots (free + 1) (drop free slots) i (omega arith)
    ∙ ap (λ n. take i (drop free slots) ++ drop n slots) same
    ∙ ap (λ rest. take i (drop free slots) ++ rest) (sym (drop-drop (suc i) free slots))

set-after : (p q : List Row) (n : ℕ) (r : Row) → length p ≡ n → 0 < length q → set (p ++ q) n r ≡ p ++ r ∷ drop 1 q
set-after p [] n r e l = absurd (omega arith)
set-after p (x ∷ q) n r e l = set_at p x q r n e

down : (slots : List Row) (free i : ℕ) (r : Row) → free + i < length slots → drop free (set (paste slots free (drop (free + 1) slots) i) (free + i) r) ≡ insert (drop (free + 1) slots) i r
down slots free i r l =
    let moved : List Row = take i (drop (free + 1) slots) in
    let len : length moved ≡ i = length-take-le i (drop (free + 1) slots) (omega (arith, length-drop (free + 1) slots)) in
    let same : (free + i) + 1 ≡ (free + 1) + i = omega arith in
    drop-set-add free (paste slots free (drop (free + 1) slots) i) i r
    ∙ ap (λ rows. set rows i r) (pasted slots free (drop (free + 1) slots) i (omega arith))
    ∙ set-after moved (drop (free + i) slots) i r len (omega (arith, length-drop (free + i) slots))
    ∙ ap (λ rest. moved ++ r ∷ rest) (drop-drop 1 (free + i) slots ∙ ap (λ n. drop n slots) same ∙ sym (drop-drop i (free + 1) slots))

-- the slots after the code has moved rows by one, in what it has read of them
module _ (slots read : List Row) (free i n : ℕ) (same : read ≡ slots) (many : n ≡ i) (within : free + i < length slots) where
  pub moved_up : (after : List Row) → after ≡ paste read (free + 1) (drop free read) n → drop (free + 1) (refill (length slots) slots after) ≡ remove (drop free slots) i
  moved_up after e =
      let is : after ≡ paste slots (free + 1) (drop free slots) i = e ∙ rw (same, many) refl in
      let len : length after ≡ length slots = ap length is ∙ length-paste slots (free + 1) (drop free slots) i (omega arith) (omega (arith, length-drop free slots)) in
      ap (drop (free + 1)) (refilled slots after len ∙ is) ∙ up slots free i within

  pub moved_down : (moved after : List Row) (r : Row) → moved ≡ paste read free (drop (free + 1) read) n → after ≡ set moved (free + i) r → drop free (refill (length slots) slots after) ≡ insert (drop (free + 1) slots) i r
  moved_down moved after r e f =
      let is : after ≡ set (paste slots free (drop (free + 1) slots) i) (free + i) r = f ∙ ap (λ m. set m (free + i) r) (e ∙ rw (same, many) refl) in
      let rest = length-drop (free + 1) slots in
      let len : length after ≡ length slots = ap length is ∙ length-set (paste slots free (drop (free + 1) slots) i) (free + i) r ∙ length-paste slots free (drop (free + 1) slots) i (omega arith) (omega arith) in
      ap (drop free) (refilled slots after len ∙ is) ∙ down slots free i r within
