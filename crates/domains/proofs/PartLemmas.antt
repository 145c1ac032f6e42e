-- What a part leaves of the rows at its place and elsewhere.
use Rattle.base.proofs.Public.{◌≡◌, ◌≢◌, ℕ, zero, suc, ◌+◌, ◌<◌, ◌≤◌, Bool, true, false, not, List, [], ◌∷◌, ◌++◌, cond, refl, sym, ap, ◌∙◌, arith, length, get_or, set, append-nil, filter, flat_map, remove, nat_tests, filter-append}
use Rattle.domains.specs.Prelude.{Act, Choice, choices, Climbs, DomainView, From, Idle, in_part, IsFound, IsGap, IsPartAt, out_of_part, Part, Place, place_index, Row, row_choices, Upto}
use Rattle.cluster.specs.declared.choices.Choice.TheVariants.{Idle as Stay}
use Rattle.domains.proofs.StartLemmas.{row_none, row_all}
use Rattle.domains.proofs.RowLemmas.{Climbs-at}

-- rows that are not at a place, and not empty
abbrev Away : ℕ → List Row → Type 0
Away key [] = Unit {0}
Away key (r ∷ rs) = (place_index r.place ≢ key) × (r.lo ≤ r.hi) × Away key rs

Away-after : (key from : ℕ) (rows : List Row) → Climbs from rows → key < from → Away key rows
Away-after key from [] c h = tt
Away-after key from (r ∷ rs) c h = (omega arith, c.1, Away-after key (place_index r.place + 1) rs c.2 (omega arith))

Away-gap : (key from : ℕ) (rows : List Row) (i : ℕ) → Climbs from rows → ((k : ℕ) (d : Row) → k < i → place_index (get_or rows k d).place < key) → ((k : ℕ) (d : Row) → i ≤ k → k < length rows → key < place_index (get_or rows k d).place) → Away key rows
Away-gap key from [] i c below above = tt
Away-gap key from (r ∷ rs) zero c below above =
    let here : key < place_index r.place = above 0 r (omega arith) (omega arith) in
    (omega arith, c.1, Away-gap key (place_index r.place + 1) rs zero c.2 (λ k d l. absurd (omega arith)) (λ k d l u. above (suc k) d (omega arith) (omega arith)))
Away-gap key from (r ∷ rs) (suc i) c below above =
    let here : place_index r.place < key = below 0 r (omega arith) in
    (omega arith, c.1, Away-gap key (place_index r.place + 1) rs i c.2 (λ k d l. below (suc k) d (omega arith)) (λ k d l u. above (suc k) d (omega arith) (omega arith)))

-- a test that keeps nothing of the rows that are not at a place, and one that keeps them
record DropsElsewhere (test : Choice → Bool) (key : ℕ) : Type 0 where
  drops : (r : Row) → place_index r.place ≢ key → r.lo ≤ r.hi → filter test (row_choices r) ≡ []

record KeepsElsewhere (test : Choice → Bool) (key : ℕ) : Type 0 where
  keeps : (r : Row) → place_index r.place ≢ key → r.lo ≤ r.hi → filter test (row_choices r) ≡ row_choices r

module _ (test : Choice → Bool) (key : ℕ) where
  away_none : DropsElsewhere test key → (rows : List Row) → Away key rows → filter test (flat_map row_choices rows) ≡ []
  away_none e [] a = refl
  away_none e (r ∷ rs) a =
      rw (filter-append test (row_choices r) (flat_map row_choices rs), e.drops r a.0 a.1) (away_none e rs a.2)

  away_all : KeepsElsewhere test key → (rows : List Row) → Away key rows → filter test (flat_map row_choices rows) ≡ flat_map row_choices rows
  away_all e [] a = refl
  away_all e (r ∷ rs) a =
      rw (filter-append test (row_choices r) (flat_map row_choices rs), e.keeps r a.0 a.1, away_all e rs a.2) refl

  found_none : DropsElsewhere test key → (from : ℕ) (rows : List Row) (i : ℕ) (d : Row) → Climbs from rows → i < length rows → place_index (get_or rows i d).place ≡ key → filter test (flat_map row_choices rows) ≡ filter test (row_choices (get_or rows i d))
  found_none e from [] i d c h at = absurd (omega arith)
  found_none e from (r ∷ rs) zero d c h at =
      rw (filter-append test (row_choices r) (flat_map row_choices rs), away_none e rs (Away-after key (place_index r.place + 1) rs c.2 (omega arith)))
      (append-nil (filter test (row_choices r)))
  found_none e from (r ∷ rs) (suc i) d c h at =
      let there = Climbs-at (place_index r.place + 1) rs i d c.2 (omega arith) in
      rw (filter-append test (row_choices r) (flat_map row_choices rs), e.drops r (omega arith) c.1)
      (found_none e (place_index r.place + 1) rs i d c.2 (omega arith) at)

  found_set : KeepsElsewhere test key → (from : ℕ) (rows : List Row) (i : ℕ) (d left : Row) → Climbs from rows → i < length rows → place_index (get_or rows i d).place ≡ key → row_choices left ≡ filter test (row_choices (get_or rows i d)) → flat_map row_choices (set rows i left) ≡ filter test (flat_map row_choices rows)
  found_set e from [] i d left c h at is = absurd (omega arith)
  found_set e from (r ∷ rs) zero d left c h at is =
      rw (filter-append test (row_choices r) (flat_map row_choices rs), away_all e rs (Away-after key (place_index r.place + 1) rs c.2 (omega arith)), is) refl
  found_set e from (r ∷ rs) (suc i) d left c h at is =
      let there = Climbs-at (place_index r.place + 1) rs i d c.2 (omega arith) in
      rw (filter-append test (row_choices r) (flat_map row_choices rs), e.keeps r (omega arith) c.1, found_set e (place_index r.place + 1) rs i d left c.2 (omega arith) at is) refl

  found_remove : KeepsElsewhere test key → (from : ℕ) (rows : List Row) (i : ℕ) (d : Row) → Climbs from rows → i < length rows → place_index (get_or rows i d).place ≡ key → [] ≡ filter test (row_choices (get_or rows i d)) → flat_map row_choices (remove rows i) ≡ filter test (flat_map row_choices rows)
  found_remove e from [] i d c h at is = absurd (omega arith)
  found_remove e from (r ∷ rs) zero d c h at is =
      rw (filter-append test (row_choices r) (flat_map row_choices rs), away_all e rs (Away-after key (place_index r.place + 1) rs c.2 (omega arith)), ← is) refl
  found_remove e from (r ∷ rs) (suc i) d c h at is =
      let there = Climbs-at (place_index r.place + 1) rs i d c.2 (omega arith) in
      rw (filter-append test (row_choices r) (flat_map row_choices rs), e.keeps r (omega arith) c.1, ← found_remove e (place_index r.place + 1) rs i d c.2 (omega arith) at is) refl

-- a start elsewhere is in no part at the place
away-part : (place : Place) (part : Part) (q : Place) (s : ℕ) → IsPartAt place part → place_index q ≢ place_index place → in_part part (Act q s) ≡ false
away-part place Idle q s at ne = absurd at
away-part place (Upto p k) q s at ne = grind (arith, nat_tests)
away-part place (From p k) q s at ne = grind (arith, nat_tests)

drops-elsewhere : (place : Place) (part : Part) → IsPartAt place part → DropsElsewhere (in_part part) (place_index place)
drops-elsewhere place part at = record {
  drops = λ r ne h. sym (row_none (in_part part) r (λ s l u. away-part place part r.place s at ne));
}

keeps-elsewhere : (place : Place) (part : Part) → IsPartAt place part → KeepsElsewhere (out_of_part part) (place_index place)
keeps-elsewhere place part at = record {
  keeps = λ r ne h. sym (row_all (out_of_part part) r (λ s l u. ap not (away-part place part r.place s at ne)));
}

-- the rows of a domain, and a part at a place
module _ (rows : List Row) (place : Place) (part : Part) (climbs : Climbs 0 rows) (at : IsPartAt place part) where
  pub inside_gap : (i : ℕ) → IsGap rows (place_index place) i → [] ≡ filter (in_part part) (flat_map row_choices rows)
  inside_gap i gap = sym (away_none (in_part part) (place_index place) (drops-elsewhere place part at) rows (Away-gap (place_index place) 0 rows i climbs gap.below gap.above))

  pub outside_gap : (i : ℕ) → IsGap rows (place_index place) i → flat_map row_choices rows ≡ filter (out_of_part part) (flat_map row_choices rows)
  outside_gap i gap = sym (away_all (out_of_part part) (place_index place) (keeps-elsewhere place part at) rows (Away-gap (place_index place) 0 rows i climbs gap.below gap.above))

  pub inside_found : (i : ℕ) (d : Row) → IsFound rows (place_index place) i → filter (in_part part) (row_choices (get_or rows i d)) ≡ filter (in_part part) (flat_map row_choices rows)
  inside_found i d found = sym (found_none (in_part part) (place_index place) (drops-elsewhere place part at) 0 rows i d climbs found.within (found.same d))

  pub outside_set : (i : ℕ) (d left : Row) → IsFound rows (place_index place) i → row_choices left ≡ filter (out_of_part part) (row_choices (get_or rows i d)) → flat_map row_choices (set rows i left) ≡ filter (out_of_part part) (flat_map row_choices rows)
  outside_set i d left found is = found_set (out_of_part part) (place_index place) (keeps-elsewhere place part at) 0 rows i d left climbs found.within (found.same d) is

  pub outside_remove : (i : ℕ) (d : Row) → IsFound rows (place_index place) i → [] ≡ filter (out_of_part part) (row_choices (get_or rows i d)) → flat_map row_choices (remove rows i) ≡ filter (out_of_part part) (flat_map row_choices rows)
  outside_remove i d found is = found_remove (out_of_part part) (place_index place) (keeps-elsewhere place part at) 0 rows i d climbs found.within (found.same d) is

idle_none : (rows : List Row) → filter (in_part Idle) (flat_map row_choices rows) ≡ []
idle_none [] = refl
idle_none (r ∷ rs) =
    rw (filter-append (in_part Idle) (row_choices r) (flat_map row_choices rs), ← row_none (in_part Idle) r (λ s l u. refl)) (idle_none rs)

idle_all : (rows : List Row) → filter (out_of_part Idle) (flat_map row_choices rows) ≡ flat_map row_choices rows
idle_all [] = refl
idle_all (r ∷ rs) =
    filter-append (out_of_part Idle) (row_choices r) (flat_map row_choices rs)
    ∙ rw (← row_all (out_of_part Idle) r (λ s l u. refl), idle_all rs) refl

-- Idle and the rows together
pub inside_idle : (idle : Bool) (rows : List Row) → cond idle (Stay ∷ []) [] ++ [] ≡ filter (in_part Idle) (cond idle (Stay ∷ []) [] ++ flat_map row_choices rows)
inside_idle true rows = rw (idle_none rows) refl
inside_idle false rows = sym (idle_none rows)

pub outside_idle : (idle : Bool) (rows : List Row) → flat_map row_choices rows ≡ filter (out_of_part Idle) (cond idle (Stay ∷ []) [] ++ flat_map row_choices rows)
outside_idle true rows = sym (idle_all rows)
outside_idle false rows = sym (idle_all rows)

pub without_idle : (d : DomainView) → d.idle ≡ false → choices d ≡ filter (out_of_part Idle) (choices d)
without_idle d none = rw none (outside_idle false d.rows)
