-- Where all choices of a domain go, by its rows.
use Rattle.standings.proofs.Prelude.{slice_index_or, ◌≡◌, inl, ℕ, zero, suc, ◌+◌, ◌-◌, ◌<◌, ◌≤◌, Bool, true, false, ◌&&◌, ◌==◌, nat_le, cond, Option, Some, None, List, [], ◌∷◌, ◌++◌, length, refl, sym, ap, ◌∙◌, arith, Contains, filter, flat_map, false≢true, Decides-eqb, nat_tests, Act, Arrival, At, Choice, choices, Climbs, comes_by, DomainView, has_come, have_come, no_row, NodeId, Nowhere, one, place_index, Row, row_choices, starts_from, stays, surely, Idle, Place, ends_of_rows}

-- where the rows tell that all choices go, and the last start there
abbrev pub come_at : Place → ℕ → Option Arrival
come_at Nowhere last = None
come_at (At n) last = Some (record { node = n; last = last })

abbrev pub come_of : Bool → List Row → Option Arrival
come_of true rows = None
come_of false [] = None
come_of false (r ∷ []) = come_at r.place r.hi
come_of false (r ∷ q ∷ rs) = None

-- of starts that follow each other at one node all have come by the last
starts-come : (n t : ℕ) (m : NodeId) (from count : ℕ) → surely (has_come n t) (starts_from (At m) from (suc count)) ≡ (one n m.0 && nat_le (from + count) t)
starts-come n t m from zero = let same : from + 0 ≡ from = omega arith in rw same (by (one n m.0) (nat_le from t))
  where
    by : (a b : Bool) → ((a && b) && true) ≡ (a && b)
    by true true = refl
    by true false = refl
    by false b = refl
starts-come n t m from (suc count) = rw (starts-come n t m (from + 1) count) (by (one n m.0))
  where
    by : (a : Bool) → ((a && nat_le from t) && (a && nat_le (from + 1 + count) t)) ≡ (a && nat_le (from + suc count) t)
    by true = grind (arith, nat_tests)
    by false = refl

plus-nil : (cs : List Choice) → cs ++ [] ≡ cs
plus-nil [] = refl
plus-nil (c ∷ cs) = ap (λ xs. c ∷ xs) (plus-nil cs)

one-row : (n t : ℕ) (r : Row) → r.lo ≤ r.hi → comes_by n t (come_at r.place r.hi) ≡ have_come n t (row_choices r ++ [])
one-row n t r l = let more : r.hi + 1 - r.lo ≡ suc (r.hi - r.lo) = omega arith in rw (plus-nil (row_choices r), more) (by r.place)
  where
    by : (place : Place) → comes_by n t (come_at place r.hi) ≡ have_come n t (starts_from place r.lo (suc (r.hi - r.lo)))
    by Nowhere = refl
    by (At m) = let last : r.lo + (r.hi - r.lo) ≡ r.hi = omega arith in sym (starts-come n t m r.lo (r.hi - r.lo) ∙ rw last refl)

-- a choice that has come to n is at n
index : (n t : ℕ) (place : Place) (s : ℕ) → has_come n t (Act place s) ≡ true → place_index place ≡ n + 1
index n t Nowhere s e = absurd (false≢true e)
index n t (At m) s e = by (m.0 == n) refl e
  where
    by : (b : Bool) → (m.0 == n) ≡ b → (b && nat_le s t) ≡ true → m.0 + 1 ≡ n + 1
    by true i f = let is = (Decides-eqb m.0 n).0 i in omega arith
    by false i f = absurd (false≢true f)

and-both : (a b : Bool) → (a && b) ≡ true → (a ≡ true) × (b ≡ true)
and-both true b e = (refl, e)
and-both false b e = absurd (false≢true e)

surely-append : (test : Choice → Bool) (xs ys : List Choice) → surely test (xs ++ ys) ≡ true → surely test ys ≡ true
surely-append test [] ys e = e
surely-append test (x ∷ xs) ys e = surely-append test xs ys (and-both (test x) (surely test (xs ++ ys)) e).1

-- two rows are at two places
two-rows : (n t : ℕ) (r q : Row) (rs : List Row) → Climbs 0 (r ∷ q ∷ rs) → have_come n t (flat_map row_choices (r ∷ q ∷ rs)) ≡ false
two-rows n t r q rs climbs =
    let first : r.hi + 1 - r.lo ≡ suc (r.hi - r.lo) = omega (arith, climbs.1) in
    let second : q.hi + 1 - q.lo ≡ suc (q.hi - q.lo) = omega (arith, climbs.2.1) in
    rw first (not-true _ (λ e.
    let here = and-both (has_come n t (Act r.place r.lo)) _ e in
    let there = surely-append (has_come n t) (starts_from r.place (r.lo + 1) (r.hi - r.lo)) (row_choices q ++ flat_map row_choices rs) here.1 in
    let next = and-both (has_come n t (Act q.place q.lo)) _ (rw second at there) in
    absurd (omega (arith, climbs.2.0, index n t r.place r.lo here.0, index n t q.place q.lo next.0))))
  where
    not-true : (b : Bool) → (b ≡ true → ⊥) → b ≡ false
    not-true true f = absurd (f refl)
    not-true false f = refl

pub come_law : (d : DomainView) → Climbs 0 d.rows → (n t : ℕ) → comes_by n t (come_of d.idle d.rows) ≡ have_come n t (choices d)
come_law d climbs n t = by d.idle d.rows climbs
  where
    by : (idle : Bool) (rows : List Row) → Climbs 0 rows → comes_by n t (come_of idle rows) ≡ have_come n t (cond idle (Idle ∷ []) [] ++ flat_map row_choices rows)
    by true rows c = refl
    by false [] c = refl
    by false (r ∷ []) c = one-row n t r c.1
    by false (r ∷ q ∷ rs) c = sym (two-rows n t r q rs c)

-- as the code comes to it
pub come_one : (d : DomainView) (rows : List Row) (x : Row) (a : Option Arrival) → Climbs 0 d.rows → d.idle ≡ false → rows ≡ d.rows → 1 ≤ length rows → length rows < 2 → come_at (slice_index_or rows 0 x).place (slice_index_or rows 0 x).hi ≡ a → (n t : ℕ) → comes_by n t a ≡ have_come n t (choices d)
come_one d [] x a climbs idle e low high is n t = absurd (omega (arith, low))
come_one d (r ∷ []) x a climbs idle e low high is n t = rw (← is) (ap (comes_by n t) (let o : come_of d.idle d.rows ≡ come_at r.place r.hi = rw (idle, ← e) refl in sym o) ∙ come_law d climbs n t)
come_one d (r ∷ q ∷ rs) x a climbs idle e low high is n t = absurd (omega (arith, high))

pub come_two : (d : DomainView) (rows : List Row) → Climbs 0 d.rows → d.idle ≡ false → rows ≡ d.rows → 2 ≤ length rows → (n t : ℕ) → false ≡ have_come n t (choices d)
come_two d [] climbs idle e two n t = absurd (omega (arith, two))
come_two d (r ∷ []) climbs idle e two n t = absurd (omega (arith, two))
come_two d (r ∷ q ∷ rs) climbs idle e two n t = ap (comes_by n t) (let o : come_of d.idle d.rows ≡ None = rw (idle, ← e) refl in sym o) ∙ come_law d climbs n t

pub come_idle : (d : DomainView) → d.idle ≡ true → (n t : ℕ) → false ≡ have_come n t (choices d)
come_idle d idle n t = rw idle refl

-- all choices stay where nothing is left out
pub all_stay : (cs : List Choice) → filter (stays None) cs ≡ cs
all_stay [] = refl
all_stay (c ∷ cs) = ap (λ xs. c ∷ xs) (all_stay cs)

-- the first start of a row is one of the choices
pub first_there : (d : DomainView) (rows : List Row) (i : ℕ) → rows ≡ d.rows → Climbs 0 rows → i < length rows → Contains (choices d) (Act (slice_index_or rows i no_row).place (slice_index_or rows i no_row).lo)
first_there d rows i same climbs low =
    rw same ((ends_of_rows d (rw same at climbs) (Act (slice_index_or d.rows i no_row).place (slice_index_or d.rows i no_row).lo)).1 (i, rw same at low, refl, inl refl)).0
