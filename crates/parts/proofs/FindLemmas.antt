-- What is found in a list, and by which place.
use Rattle.std.proofs.Common.{slice_get}
use Rattle.std.specs.List.{filter_map, position, position_or_len}
use Rattle.base.proofs.Public.{◌≡◌, ◌≢◌, inl, inr, ℕ, zero, suc, ◌+◌, ◌<◌, ◌≤◌, Bool, true, false, List, [], ◌∷◌, length, Option, Some, None, if◌then◌else◌, refl, sym, ap, ◌∙◌, arith, cases_Bool, cases_eq, cases_lt, fails_before_first, false≢true, get_or_from_slice_get, lt-ltb, nat_lt, slice_get_within, find, list_any, or_left, or_right, range_with_len}

-- ---- the first number of a range that passes

pub record IsFound (test : ℕ → Bool) (a n k : ℕ) : Type 0 where
  pub passes : test k ≡ true
  pub low : a ≤ k
  pub high : k < a + n

found_later : (test : ℕ → Bool) (a n k : ℕ) → IsFound test (a + 1) n k → IsFound test a (suc n) k
found_later test a n k h = record { passes = h.passes; low = omega (arith, h.low); high = omega (arith, h.high) }

pub found : (test : ℕ → Bool) (a n k : ℕ) → find test (range_with_len a n) ≡ Some k → IsFound test a n k
found test a zero k e = absurd (cc e)
found test a (suc n) k e =
    elim (cases_Bool (test a)) [
      | inl pass ↦
          let here : Some a ≡ Some k = rw pass at e in
          let same : a ≡ k = cc here in
          record { passes = ap test (sym same) ∙ pass; low = omega (arith, same); high = omega (arith, same) }
      | inr fail ↦ let later : find test (range_with_len (a + 1) n) ≡ Some k = rw fail at e in found_later test a n k (found test (a + 1) n k later)
    ]

-- where one passes, one is found
passed_by : (test : ℕ → Bool) (a n : ℕ) → test a ≡ false → find test (range_with_len a (suc n)) ≡ find test (range_with_len (a + 1) n)
passed_by test a n fail = rw fail refl

pub finds : (test : ℕ → Bool) (a n k : ℕ) → IsFound test a n k → (j : ℕ) × (find test (range_with_len a n) ≡ Some j)
finds test a zero k h = absurd (omega (arith, h.low, h.high))
finds test a (suc n) k h =
    elim (cases_Bool (test a)) [
      | inl pass ↦ (a, rw pass refl)
      | inr fail ↦
          let other : a ≢ k = λ same. false≢true (sym fail ∙ ap test same ∙ h.passes) in
          let later = finds test (a + 1) n k (record { passes = h.passes; low = omega (arith, h.low, other); high = omega (arith, h.high) }) in
          (later.0, passed_by test a n fail ∙ later.1)
    ]

-- ---- whether a number of a range passes

pub any_passes : (test : ℕ → Bool) (a n k : ℕ) → IsFound test a n k → list_any test (range_with_len a n) ≡ true
any_passes test a zero k h = absurd (omega (arith, h.low, h.high))
any_passes test a (suc n) k h =
    elim (cases_eq a k) [
      | inl same ↦ or_left (test a) _ (ap test same ∙ h.passes)
      | inr other ↦ or_right (test a) _ (any_passes test (a + 1) n k (record { passes = h.passes; low = omega (arith, h.low, other); high = omega (arith, h.high) }))
    ]

pub which_passes : (test : ℕ → Bool) (a n : ℕ) → list_any test (range_with_len a n) ≡ true → (k : ℕ) × IsFound test a n k
which_passes test a zero e = absurd (false≢true e)
which_passes test a (suc n) e =
    elim (cases_Bool (test a)) [
      | inl pass ↦ (a, record { passes = pass; low = omega arith; high = omega arith })
      | inr fail ↦ let later : list_any test (range_with_len (a + 1) n) ≡ true = rw fail at e in let w = which_passes test (a + 1) n later in (w.0, found_later test a n w.0 w.1)
    ]

-- ---- the items of a list

pub item_passes : {A : Type 0} (test : A → Bool) (xs : List A) → list_any test xs ≡ true → (c : ℕ) × (x : A) × (slice_get xs c ≡ Some x) × (test x ≡ true)
item_passes test [] e = absurd (false≢true e)
item_passes test (x ∷ xs) e =
    elim (cases_Bool (test x)) [
      | inl pass ↦ (0, x, refl, pass)
      | inr fail ↦ let later : list_any test xs ≡ true = rw fail at e in let w = item_passes test xs later in (suc w.0, w.1, w.2, w.3)
    ]

pub passes_any : {A : Type 0} (test : A → Bool) (xs : List A) (c : ℕ) (x : A) → slice_get xs c ≡ Some x → test x ≡ true → list_any test xs ≡ true
passes_any test [] c x e pass = absurd (cc e)
passes_any test (y ∷ xs) zero x e pass = let same : y ≡ x = cc e in or_left (test y) _ (ap test same ∙ pass)
passes_any test (y ∷ xs) (suc c) x e pass = or_right (test y) _ (passes_any test xs c x e pass)

-- no place has an item that passes
pub none_at : {A : Type 0} (test : A → Bool) (xs : List A) → position test xs ≡ None → (c : ℕ) (x : A) → slice_get xs c ≡ Some x → test x ≡ false
none_at test xs none c x at =
    elim (cases_lt (position_or_len test xs) (length xs)) [
      | inl low ↦ absurd (both (position_or_len test xs) (lt-ltb _ _ low) none)
      | inr past ↦ ap test (sym (get_or_from_slice_get xs c x x at)) ∙ fails_before_first test xs c x (omega (arith, past, slice_get_within xs c x at))
    ]
  where
    both : (k : ℕ) → nat_lt k (length xs) ≡ true → (if nat_lt k (length xs) then Some k else None) ≡ None → ⊥
    both k low e = let some : Some k ≡ None = rw low at e in cc some

-- ---- the first item that gives something

-- an item at some place that gives j
pub record Gives {A : Type 0} (give : A → Option ℕ) (xs : List A) (j : ℕ) : Type 0 where
  pub place : ℕ
  pub item : A
  pub at : slice_get xs place ≡ Some item
  pub gives : give item ≡ Some j

pub first_given : {A : Type 0} (give : A → Option ℕ) (xs : List A) (j : ℕ) → slice_get (filter_map give xs) 0 ≡ Some j → Gives give xs j
first_given give [] j e = absurd (cc e)
first_given give (x ∷ xs) j e = by (give x) refl (first_given give xs j)
  where
    by : (o : Option ℕ) → give x ≡ o → (slice_get (filter_map give xs) 0 ≡ Some j → Gives give xs j) → Gives give (x ∷ xs) j
    by None none later =
        let rest : slice_get (filter_map give xs) 0 ≡ Some j = rw none at e in
        let w : Gives give xs j = later rest in
        record { place = suc w.place; item = w.item; at = w.at; gives = w.gives }
    by (Some i) some later = let same : Some i ≡ Some j = rw some at e in record { place = 0; item = x; at = refl; gives = some ∙ same }

-- one gives something
abbrev pub HasFirst : {A : Type 0} → (A → Option ℕ) → List A → Type 0
HasFirst give xs = (j : ℕ) × (slice_get (filter_map give xs) 0 ≡ Some j)

pub gives_first : {A : Type 0} (give : A → Option ℕ) (xs : List A) (i : ℕ) → Gives give xs i → HasFirst give xs
gives_first give [] i w = absurd (cc (w.at))
gives_first give (y ∷ xs) i w = by (give y) refl w.place w.at (λ d at. gives_first give xs i (record { place = d; item = w.item; at = at; gives = w.gives }))
  where
    by : (o : Option ℕ) → give y ≡ o → (d : ℕ) → slice_get (y ∷ xs) d ≡ Some w.item → ((e : ℕ) → slice_get xs e ≡ Some w.item → HasFirst give xs) → HasFirst give (y ∷ xs)
    by (Some k) some d here rest = (k, rw some refl)
    by None none zero here rest = let same : y ≡ w.item = cc here in absurd (clash (sym none ∙ ap give same ∙ w.gives))
      where
        clash : None ≡ Some i → ⊥
        clash h = cc h
    by None none (suc d) later rest = let f : HasFirst give xs = rest d later in (f.0, rw none f.1)
