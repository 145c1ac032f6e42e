-- Starts of one row, and what a test keeps of them.
use Rattle.base.proofs.Public.{◌≡◌, ℕ, zero, suc, ◌+◌, ◌-◌, ◌<◌, ◌≤◌, Bool, true, false, ◌&&◌, [], ◌∷◌, ◌++◌, refl, sym, ap, ◌∙◌, arith, append-nil, ◌⊎◌, filter, nat_le, nat_tests, filter-append}
use Rattle.domains.specs.Prelude.{Act, Choice, KeepsBetween, Place, Row, row_choices, starts_from}

-- starts of one place, cut in two
starts-append : (p : Place) (from m n count : ℕ) → count ≡ m + n → starts_from p from count ≡ starts_from p from m ++ starts_from p (from + m) n
starts-append p from zero n count e =
    let all : count ≡ n = omega arith in
    let at : from + 0 ≡ from = omega arith in
    rw (all, at)
starts-append p from (suc m) n count e =
    let all : count ≡ suc (m + n) = omega arith in
    let at : from + suc m ≡ (from + 1) + m = omega arith in
    rw (all, at) (ap (λ cs. Act p from ∷ cs) (starts-append p (from + 1) m n (m + n) refl))

filter-starts_all : (test : Choice → Bool) (p : Place) (from count : ℕ) → ((s : ℕ) → from ≤ s → s < from + count → test (Act p s) ≡ true) → filter test (starts_from p from count) ≡ starts_from p from count
filter-starts_all test p from zero h = refl
filter-starts_all test p from (suc count) h =
    rw (h from (omega arith) (omega arith)) (ap (λ cs. Act p from ∷ cs) (filter-starts_all test p (from + 1) count (λ s l u. h s (omega arith) (omega arith))))

filter-starts_none : (test : Choice → Bool) (p : Place) (from count : ℕ) → ((s : ℕ) → from ≤ s → s < from + count → test (Act p s) ≡ false) → filter test (starts_from p from count) ≡ []
filter-starts_none test p from zero h = refl
filter-starts_none test p from (suc count) h =
    rw (h from (omega arith) (omega arith)) (filter-starts_none test p (from + 1) count (λ s l u. h s (omega arith) (omega arith)))

-- the test keeps the first m starts and no other
filter-starts_front : (test : Choice → Bool) (p : Place) (from m n count : ℕ) → count ≡ m + n → ((s : ℕ) → from ≤ s → s < from + m → test (Act p s) ≡ true) → ((s : ℕ) → from + m ≤ s → s < from + m + n → test (Act p s) ≡ false) → filter test (starts_from p from count) ≡ starts_from p from m
filter-starts_front test p from m n count e kept lost =
    rw (starts-append p from m n count e, filter-append test (starts_from p from m) (starts_from p (from + m) n), filter-starts_all test p from m kept, filter-starts_none test p (from + m) n lost)
    (simp append-nil)

-- the test keeps nothing of a row, and all of it
pub row_none : (test : Choice → Bool) (r : Row) → ((s : ℕ) → r.lo ≤ s → s ≤ r.hi → test (Act r.place s) ≡ false) → [] ≡ filter test (row_choices r)
row_none test r h = sym (filter-starts_none test r.place r.lo (r.hi + 1 - r.lo) (λ s l u. h s l (omega arith)))

pub row_all : (test : Choice → Bool) (r : Row) → ((s : ℕ) → r.lo ≤ s → s ≤ r.hi → test (Act r.place s) ≡ true) → row_choices r ≡ filter test (row_choices r)
row_all test r h = sym (filter-starts_all test r.place r.lo (r.hi + 1 - r.lo) (λ s l u. h s l (omega arith)))

in_window : (from to s : ℕ) → from ≤ s → s ≤ to → (nat_le from s && nat_le s to) ≡ true
in_window from to s l u = grind (arith, nat_tests)

out_of_window : (from to s : ℕ) → (from ≤ s → s ≤ to → ⊥) → (nat_le from s && nat_le s to) ≡ false
out_of_window from to s h = grind (arith, nat_tests)

-- a window of a row is empty where its ends cross
pub window_none : (test : Choice → Bool) (r : Row) (from to lo hi : ℕ) → KeepsBetween test r from to → r.lo ≤ r.hi → r.lo ≤ lo → from ≤ lo → (lo ≡ r.lo) ⊎ (lo ≡ from) → (hi ≡ r.hi) ⊎ (hi ≡ to) → hi < lo → [] ≡ filter test (row_choices r)
window_none test r from to lo hi k row a b low high cross =
    row_none test r (λ s l u. k.keeps s l u ∙ out_of_window from to s (λ g g'. grind arith))

-- and else is a row
pub window_some : (test : Choice → Bool) (r : Row) (from to lo hi : ℕ) → KeepsBetween test r from to → r.lo ≤ lo → from ≤ lo → (lo ≡ r.lo) ⊎ (lo ≡ from) → hi ≤ r.hi → hi ≤ to → (hi ≡ r.hi) ⊎ (hi ≡ to) → lo ≤ hi → starts_from r.place lo (hi + 1 - lo) ≡ filter test (row_choices r)
window_some test r from to lo hi k a b low a' b' high h =
    let before : filter test (starts_from r.place r.lo (lo - r.lo)) ≡ [] =
    filter-starts_none test r.place r.lo (lo - r.lo) (λ s l u. k.keeps s l (omega arith) ∙ out_of_window from to s (λ g g'. grind arith)) in
    let rest : filter test (starts_from r.place lo (r.hi + 1 - lo)) ≡ starts_from r.place lo (hi + 1 - lo) =
    filter-starts_front test r.place lo (hi + 1 - lo) (r.hi - hi) (r.hi + 1 - lo) (omega arith)
    (λ s l u. k.keeps s (omega arith) (omega arith) ∙ in_window from to s (omega arith) (omega arith))
    (λ s l u. k.keeps s (omega arith) (omega arith) ∙ out_of_window from to s (λ g g'. grind arith)) in
    let at : r.lo + (lo - r.lo) ≡ lo = omega arith in
    let split : starts_from r.place r.lo (r.hi + 1 - r.lo) ≡ starts_from r.place r.lo (lo - r.lo) ++ starts_from r.place lo (r.hi + 1 - lo) =
    starts-append r.place r.lo (lo - r.lo) (r.hi + 1 - lo) (r.hi + 1 - r.lo) (omega arith) ∙ rw at refl in
    rw (split, filter-append test (starts_from r.place r.lo (lo - r.lo)) (starts_from r.place lo (r.hi + 1 - lo)), before, rest) refl
