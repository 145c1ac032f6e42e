-- Ranges of numbers: one number more at the end, the first number apart, and a test of all of them.
use Rattle.std.proofs.Common.{◌≡◌, ◌⊎◌, inl, inr, ℕ, zero, suc, ◌+◌, ◌-◌, ◌<◌, ◌≤◌, Bool, true, false, ◌||◌, List, [], ◌∷◌, ◌++◌, Some, None, refl, sym, ap, ◌∙◌, append_assoc, arith}
use Rattle.std.proofs.lemmas.Bool.{and_from, and_parts}
use Rattle.std.proofs.lemmas.List.{append-nil}
use Rattle.std.proofs.lemmas.List.Concat.{flat_map-append}
use Rattle.std.proofs.lemmas.List.Elements.{filter-append}
use Rattle.std.proofs.lemmas.List.Folds.{list_any-append}
use Rattle.std.proofs.Math.Bool.{or-false}
use Rattle.std.specs.List.{filter, find, flat_map, list_all, list_any, range_with_len}

-- ---- one number more at the end; for `map` std has `map-range_with_len_more`

ends_with : (a n m j : ℕ) → m ≡ suc n → a + n ≡ j → range_with_len a m ≡ range_with_len a n ++ j ∷ []
ends_with a zero m j more last = rw more (ap (λ (x : ℕ). x ∷ []) (omega arith))
ends_with a (suc n) m j more last = rw more (ap (λ (l : List ℕ). a ∷ l) (ends_with (a + 1) n (suc n) j refl (omega arith)))

pub range_more : (n : ℕ) → range_with_len 0 (n + 1) ≡ range_with_len 0 n ++ n ∷ []
range_more n = ends_with 0 n (n + 1) n (omega arith) (omega arith)

-- what each number gives
pub flat_map_more : {A : Type 0} (f : ℕ → List A) (n : ℕ) → flat_map f (range_with_len 0 (n + 1)) ≡ flat_map f (range_with_len 0 n) ++ f n
flat_map_more f n =
    ap (flat_map f) (range_more n) ∙ flat_map-append f (range_with_len 0 n) (n ∷ []) ∙ ap (λ (l : List _). flat_map f (range_with_len 0 n) ++ l) (append-nil (f n))

-- a list that starts empty, and goes on with what the next number gives
pub pieces_more : {A : Type 0} (f : ℕ → List A) (n : ℕ) (now new : List A) → now ≡ flat_map f (range_with_len 0 n) → new ≡ now ++ f n → new ≡ flat_map f (range_with_len 0 (n + 1))
pieces_more f n now new was step = rw (step, was) (sym (flat_map_more f n))

-- the same for a list that has a start
pub text_more : {A : Type 0} (f : ℕ → List A) (n : ℕ) (start now new : List A) → now ≡ start ++ flat_map f (range_with_len 0 n) → new ≡ now ++ f n → new ≡ start ++ flat_map f (range_with_len 0 (n + 1))
text_more f n start now new was step = rw (step, was, flat_map_more f n) (append_assoc start (flat_map f (range_with_len 0 n)) (f n))

-- the numbers that pass a test
filter_more : (test : ℕ → Bool) (n : ℕ) → filter test (range_with_len 0 (n + 1)) ≡ filter test (range_with_len 0 n) ++ filter test (n ∷ [])
filter_more test n = ap (filter test) (range_more n) ∙ filter-append test (range_with_len 0 n) (n ∷ [])

pub passes_more : (test : ℕ → Bool) (n : ℕ) (kept : List ℕ) → kept ≡ filter test (range_with_len 0 n) → test n ≡ true → kept ++ n ∷ [] ≡ filter test (range_with_len 0 (n + 1))
passes_more test n kept was pass = rw (was, filter_more test n, pass) refl

pub fails_more : (test : ℕ → Bool) (n : ℕ) (kept : List ℕ) → kept ≡ filter test (range_with_len 0 n) → test n ≡ false → kept ≡ filter test (range_with_len 0 (n + 1))
fails_more test n kept was fail = rw (was, filter_more test n, fail) (sym (append-nil (filter test (range_with_len 0 n))))

-- whether one passes a test
pub any_more : (test : ℕ → Bool) (n : ℕ) → list_any test (range_with_len 0 (n + 1)) ≡ (list_any test (range_with_len 0 n) || test n)
any_more test n =
    ap (list_any test) (range_more n) ∙ list_any-append test (range_with_len 0 n) (n ∷ []) ∙ ap (λ (b : Bool). list_any test (range_with_len 0 n) || b) (or-false (test n))

-- ---- the numbers from one on, below a bound: the first apart

counted : (first n k : ℕ) → n - first ≡ suc k → range_with_len first (n - first) ≡ first ∷ range_with_len (first + 1) k
counted first n k count = rw count refl

pub range_first : (first n : ℕ) → first < n → range_with_len first (n - first) ≡ first ∷ range_with_len (first + 1) (n - (first + 1))
range_first first n below = counted first n (n - (first + 1)) (omega arith)

pub range_done : (first n : ℕ) → n ≤ first → range_with_len first (n - first) ≡ []
range_done first n past =
    let none : n - first ≡ 0 = omega arith in
    ap (range_with_len first) none

-- the first number that passes a test: it is this one, or it is to be found among the rest
pub find_here : (test : ℕ → Bool) (first n : ℕ) → first < n → test first ≡ true → find test (range_with_len first (n - first)) ≡ Some first
find_here test first n below pass = rw (range_first first n below, pass) refl

pub find_later : (test : ℕ → Bool) (first n : ℕ) → first < n → test first ≡ false → find test (range_with_len first (n - first)) ≡ find test (range_with_len (first + 1) (n - (first + 1)))
find_later test first n below fail = rw (range_first first n below, fail) refl

pub find_done : (test : ℕ → Bool) (first n : ℕ) → n ≤ first → find test (range_with_len first (n - first)) ≡ None
find_done test first n past = rw (range_done first n past) refl

pub ruleset find_rules = (find_here, find_later, find_done)

-- whether one passes a test
pub any_here : (test : ℕ → Bool) (first n : ℕ) → first < n → test first ≡ true → list_any test (range_with_len first (n - first)) ≡ true
any_here test first n below pass = rw (range_first first n below, pass) refl

pub any_later : (test : ℕ → Bool) (first n : ℕ) → first < n → test first ≡ false → list_any test (range_with_len first (n - first)) ≡ list_any test (range_with_len (first + 1) (n - (first + 1)))
any_later test first n below fail = rw (range_first first n below, fail) refl

pub any_done : (test : ℕ → Bool) (first n : ℕ) → n ≤ first → list_any test (range_with_len first (n - first)) ≡ false
any_done test first n past = rw (range_done first n past) refl

pub ruleset any_rules = (any_here, any_later, any_done)

-- ---- a test of all numbers of a range

pub all_pass : (test : ℕ → Bool) (a n : ℕ) → ((k : ℕ) → a ≤ k → k < a + n → test k ≡ true) → list_all test (range_with_len a n) ≡ true
all_pass test a zero each = refl
all_pass test a (suc n) each =
    and_from _ _ (each a (omega arith) (omega arith)) (all_pass test (a + 1) n (λ k low high. each k (omega arith) (omega arith)))

pub each_passes : (test : ℕ → Bool) (a n k : ℕ) → list_all test (range_with_len a n) ≡ true → a ≤ k → k < a + n → test k ≡ true
each_passes test a zero k all low high = absurd (omega arith)
each_passes test a (suc n) k all low high =
    let sides = and_parts (test a) (list_all test (range_with_len (a + 1) n)) all in
    let split : (k ≡ a) ⊎ (a < k) = grind arith in
    elim split [ inl same ↦ ap test same ∙ sides.0 | inr later ↦ each_passes test (a + 1) n k sides.1 (omega arith) (omega arith) ]
