-- The part that has one end of an element's choices and no other choice.
use mathlib.Core.Path.{fun_ext}
use Rattle.rule_frame.proofs.Prelude.{slice_index_or, ◌≡◌, ◌≢◌, ◌⊎◌, inl, inr, ℕ, zero, suc, ◌+◌, ◌-◌, ◌<◌, ◌≤◌, Bool, true, false, cond, List, [], ◌∷◌, ◌++◌, length, refl, sym, ap, subst, ◌∙◌, arith, append-nil, filter, flat_map, Contains, nat_tests, filter-append, Act, Choice, choices, Climbs, DomainView, Element, From, Idle, in_part, IsEnd, keeping, no_row, place_index, Row, row_choices, same_element, Sets, setting, starts_from, Upto, Stay, Place, contains_filter, same_is, ends_of_rows}

-- ---- the starts of one place

none-of : (test : Choice → Bool) (q : Place) (from count : ℕ) → ((s : ℕ) → from ≤ s → s < from + count → test (Act q s) ≡ false) → filter test (starts_from q from count) ≡ []
none-of test q from zero h = refl
none-of test q from (suc count) h = rw (h from (omega arith) (omega arith)) (none-of test q (from + 1) count (λ s l u. h s (omega arith) (omega arith)))

first-of : (q r : Place) (lo n s : ℕ) → place_index r ≡ place_index q → lo ≡ s → filter (in_part (Upto q s)) (starts_from r lo (suc n)) ≡ Act r lo ∷ []
first-of q r lo n s same first = rw (here, none-of (in_part (Upto q s)) r (lo + 1) n past) refl
  where
    here : in_part (Upto q s) (Act r lo) ≡ true
    here = grind (arith, nat_tests)

    past : (u : ℕ) → lo + 1 ≤ u → u < lo + 1 + n → in_part (Upto q s) (Act r u) ≡ false
    past u l h = grind (arith, nat_tests)

last-of : (q r : Place) (lo n hi : ℕ) → place_index r ≡ place_index q → hi ≡ lo + n → filter (in_part (From q hi)) (starts_from r lo (suc n)) ≡ Act r hi ∷ []
last-of q r lo zero hi same e = let is : hi ≡ lo = omega (arith, e) in rw (here, is) refl
  where
    here : in_part (From q hi) (Act r lo) ≡ true
    here = grind (arith, nat_tests)
last-of q r lo (suc n) hi same e = rw before (last-of q r (lo + 1) n hi same (omega (arith, e)))
  where
    before : in_part (From q hi) (Act r lo) ≡ false
    before = grind (arith, nat_tests)

-- ---- the rows of a domain

at-least : (from : ℕ) (rows : List Row) (i : ℕ) → Climbs from rows → i < length rows → (from ≤ place_index (slice_index_or rows i no_row).place) × ((slice_index_or rows i no_row).lo ≤ (slice_index_or rows i no_row).hi)
at-least from [] i climbs h = absurd (omega arith)
at-least from (r ∷ rs) zero climbs h = (climbs.0, climbs.1)
at-least from (r ∷ rs) (suc i) climbs h =
    let rest = at-least (place_index r.place + 1) rs i climbs.2 (omega arith) in
    let here : from ≤ place_index r.place = climbs.0 in
    (omega (arith, here, rest.0), rest.1)

-- rows at one place are one row
one-row : (from : ℕ) (rows : List Row) (i j : ℕ) → Climbs from rows → i < length rows → j < length rows → place_index (slice_index_or rows i no_row).place ≡ place_index (slice_index_or rows j no_row).place → i ≡ j
one-row from [] i j climbs h k same = absurd (omega arith)
one-row from (r ∷ rs) zero zero climbs h k same = refl
one-row from (r ∷ rs) zero (suc j) climbs h k same = let later = at-least (place_index r.place + 1) rs j climbs.2 (omega arith) in absurd (omega (arith, same, later.0))
one-row from (r ∷ rs) (suc i) zero climbs h k same = let later = at-least (place_index r.place + 1) rs i climbs.2 (omega arith) in absurd (omega (arith, same, later.0))
one-row from (r ∷ rs) (suc i) (suc j) climbs h k same = ap suc (one-row (place_index r.place + 1) rs i j climbs.2 (omega arith) (omega arith) same)

-- a test that no start passes but at one place
abbrev IsAt : ℕ → (Choice → Bool) → Type 0
IsAt key test = (q : Place) (s : ℕ) → place_index q ≢ key → test (Act q s) ≡ false

none-after : (key : ℕ) (test : Choice → Bool) → IsAt key test → (from : ℕ) (rows : List Row) → Climbs from rows → key < from → filter test (flat_map row_choices rows) ≡ []
none-after key test at from [] climbs h = refl
none-after key test at from (r ∷ rs) climbs h =
    rw (
      filter-append test (row_choices r) (flat_map row_choices rs),
      none-of test r.place r.lo (r.hi + 1 - r.lo) (λ s l u. at r.place s (omega (arith, climbs.0, h))),
      none-after key test at (place_index r.place + 1) rs climbs.2 (omega (arith, climbs.0, h)),
    ) refl

only-row : (key : ℕ) (test : Choice → Bool) → IsAt key test → (from : ℕ) (rows : List Row) (i : ℕ) → Climbs from rows → i < length rows → place_index (slice_index_or rows i no_row).place ≡ key → filter test (flat_map row_choices rows) ≡ filter test (row_choices (slice_index_or rows i no_row))
only-row key test at from [] i climbs h same = absurd (omega arith)
only-row key test at from (r ∷ rs) zero climbs h same =
    rw (filter-append test (row_choices r) (flat_map row_choices rs), none-after key test at (place_index r.place + 1) rs climbs.2 (omega (arith, same)))
    (append-nil (filter test (row_choices r)))
only-row key test at from (r ∷ rs) (suc i) climbs h same =
    let later = at-least (place_index r.place + 1) rs i climbs.2 (omega arith) in
    rw (filter-append test (row_choices r) (flat_map row_choices rs), none-of test r.place r.lo (r.hi + 1 - r.lo) (λ s l u. at r.place s (omega (arith, later.0, same))))
    (only-row key test at (place_index r.place + 1) rs i climbs.2 (omega arith) same)

-- Idle passes no such test
past-idle : (test : Choice → Bool) (d : DomainView) → test Stay ≡ false → filter test (choices d) ≡ filter test (flat_map row_choices d.rows)
past-idle test d never = filter-append test (cond d.idle (Stay ∷ []) []) (flat_map row_choices d.rows) ∙ rw (gone d.idle) refl
  where
    gone : (b : Bool) → filter test (cond b (Stay ∷ []) []) ≡ []
    gone true = rw never refl
    gone false = refl

-- ---- an end, and the row of its place

module _ (d : DomainView) (rows : List Row) (q : Place) (s i : ℕ) (same : rows ≡ d.rows) (climbs : Climbs 0 rows) (within : i < length rows) (at : (slice_index_or rows i no_row).place ≡ q) where
  abbrev row : Row
  row = slice_index_or rows i no_row

  there : place_index row.place ≡ place_index q
  there = ap place_index at

  whole : row.lo ≤ row.hi
  whole = (at-least 0 rows i climbs within).1

  pub end_is_of_row : IsEnd (choices d) (Act q s) → (row.lo ≡ s) ⊎ (row.hi ≡ s)
  end_is_of_row end =
      let r = (ends_of_rows d (rw same at climbs) (Act q s)).0 end in
      let place : place_index (slice_index_or rows r.0 no_row).place ≡ place_index q = rw same (ap place_index r.2) in
      let is : i ≡ r.0 = one-row 0 rows i r.0 climbs within (rw same r.1) (there ∙ sym place) in
      rw (is, same) r.3

  pub end_is_within : IsEnd (choices d) (Act q s) → s ≤ row.hi
  end_is_within end = elim (end_is_of_row end) [ inl low ↦ omega (arith, low, whole) | inr high ↦ omega (arith, high) ]

  kept : (test : Choice → Bool) → IsAt (place_index q) test → test Stay ≡ false → filter test (choices d) ≡ filter test (row_choices row)
  kept test only never = past-idle test d never ∙ rw (← same) (only-row (place_index q) test only 0 rows i climbs within there)

  pub first_is_part : row.lo ≡ s → filter (in_part (Upto q s)) (choices d) ≡ Act q s ∷ []
  first_is_part low =
      let count : row.hi + 1 - row.lo ≡ suc (row.hi - row.lo) = omega (arith, whole) in
      kept (in_part (Upto q s)) (λ r u ne. away r u ne) refl ∙ rw count (first-of q row.place row.lo (row.hi - row.lo) s there low) ∙ alone low
    where
      away : (r : Place) (u : ℕ) → place_index r ≢ place_index q → in_part (Upto q s) (Act r u) ≡ false
      away r u ne = grind (arith, nat_tests)

      alone : row.lo ≡ s → Act row.place row.lo ∷ [] ≡ Act q s ∷ []
      alone low = rw (at, low) refl

  pub last_is_part : row.hi ≡ s → filter (in_part (From q s)) (choices d) ≡ Act q s ∷ []
  last_is_part high =
      let count : row.hi + 1 - row.lo ≡ suc (row.hi - row.lo) = omega (arith, whole) in
      kept (in_part (From q s)) (λ r u ne. away r u ne) refl ∙ rw count (last-of q row.place row.lo (row.hi - row.lo) s there (omega (arith, whole, high))) ∙ alone
    where
      away : (r : Place) (u : ℕ) → place_index r ≢ place_index q → in_part (From q s) (Act r u) ≡ false
      away r u ne = grind (arith, nat_tests)

      alone : Act row.place s ∷ [] ≡ Act q s ∷ []
      alone = rw at refl

pub has_row : (d : DomainView) (rows : List Row) (q : Place) (s : ℕ) → rows ≡ d.rows → Climbs 0 rows → ((i : ℕ) → i < length rows → (slice_index_or rows i no_row).place ≢ q) → ¬ IsEnd (choices d) (Act q s)
has_row d rows q s same climbs none end = let r = (ends_of_rows d (rw same at climbs) (Act q s)).0 end in none r.0 (rw same r.1) (rw same r.2)

-- ---- Idle

pub idle_is_part : (d : DomainView) → IsEnd (choices d) Stay → filter (in_part Idle) (choices d) ≡ Stay ∷ []
idle_is_part d end = held d.idle refl (contains_filter (in_part Idle) (choices d) Stay end refl)
  where
    no-rows : (rows : List Row) → filter (in_part Idle) (flat_map row_choices rows) ≡ []
    no-rows [] = refl
    no-rows (r ∷ rs) =
        rw (filter-append (in_part Idle) (row_choices r) (flat_map row_choices rs), none-of (in_part Idle) r.place r.lo (r.hi + 1 - r.lo) (λ s l u. refl), no-rows rs)
        refl

    split : filter (in_part Idle) (choices d) ≡ filter (in_part Idle) (cond d.idle (Stay ∷ []) []) ++ []
    split = filter-append (in_part Idle) (cond d.idle (Stay ∷ []) []) (flat_map row_choices d.rows) ∙ rw (no-rows d.rows) refl

    held : (b : Bool) → d.idle ≡ b → Contains (filter (in_part Idle) (choices d)) Stay → filter (in_part Idle) (choices d) ≡ Stay ∷ []
    held true is h = split ∙ rw is refl
    held false is h = absurd (nothing (subst (λ cs. Contains cs Stay) gone h))
      where
        gone : filter (in_part Idle) (choices d) ≡ []
        gone = split ∙ rw is refl

        nothing : Contains [] Stay → ⊥
        nothing (k, l, e) = omega arith

-- ---- the element is set where it keeps one choice

pub keeping_one : (s : Sets) (x : Element) (test : Choice → Bool) (c : Choice) → filter test (s x) ≡ c ∷ [] → keeping x test s ≡ setting x c s
keeping_one s x test c one = fun_ext (λ e. at e (same_element e x) refl)
  where
    at : (e : Element) (b : Bool) → same_element e x ≡ b → cond b (filter test (s e)) (s e) ≡ cond b (c ∷ []) (s e)
    at e true is = rw (same_is e x is) one
    at e false is = refl
