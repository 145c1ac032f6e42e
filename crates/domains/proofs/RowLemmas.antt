-- Rows whose places climb.
use Rattle.std.proofs.Common.{min}
use Rattle.base.proofs.Public.{◌≡◌, ◌⊎◌, inl, inr, ℕ, zero, suc, ◌+◌, ◌-◌, ◌<◌, ◌≤◌, List, [], ◌∷◌, ◌++◌, arith, refl, length, get_or, set, get_or_default, All, remove, All-head, All-tail}
use Rattle.domains.specs.Prelude.{Climbs, place_index, Row}

-- rows that climb from an index on do so from a lower one
pub Climbs-lower : (low from : ℕ) (rows : List Row) → low ≤ from → Climbs from rows → Climbs low rows
Climbs-lower low from [] l c = tt
Climbs-lower low from (r ∷ rs) l c = (omega arith, c.1, c.2)

-- each row comes from there on, and is not empty
pub Climbs-at : (from : ℕ) (rows : List Row) (i : ℕ) (d : Row) → Climbs from rows → i < length rows → (from ≤ place_index (get_or rows i d).place) × ((get_or rows i d).lo ≤ (get_or rows i d).hi)
Climbs-at from [] i d c h = absurd (omega arith)
Climbs-at from (r ∷ rs) zero d c h = (c.0, c.1)
Climbs-at from (r ∷ rs) (suc i) d c h =
    let rest = Climbs-at (place_index r.place + 1) rs i d c.2 (omega arith) in
    let from_here : from ≤ place_index r.place = c.0 in
    (omega arith, rest.1)

-- a later row is at a later place
pub Climbs-less : (from : ℕ) (rows : List Row) (i j : ℕ) (d : Row) → Climbs from rows → i < j → j < length rows → place_index (get_or rows i d).place < place_index (get_or rows j d).place
Climbs-less from [] i j d c l h = absurd (omega arith)
Climbs-less from (r ∷ rs) i zero d c l h = absurd (omega arith)
Climbs-less from (r ∷ rs) zero (suc j) d c l h =
    let there = Climbs-at (place_index r.place + 1) rs j d c.2 (omega arith) in
    omega (arith, there.0)
Climbs-less from (r ∷ rs) (suc i) (suc j) d c l h = Climbs-less (place_index r.place + 1) rs i j d c.2 (omega arith) (omega arith)

-- from row to row a place's number rises by one at least
pub Climbs-far : (from : ℕ) (rows : List Row) (i j : ℕ) (d e : Row) → Climbs from rows → i ≤ j → j < length rows → place_index (get_or rows i d).place + j ≤ place_index (get_or rows j e).place + i
Climbs-far from [] i j d e c l h = absurd (omega arith)
Climbs-far from (r ∷ rs) (suc i) zero d e c l h = absurd (omega arith)
Climbs-far from (r ∷ rs) zero zero d e c l h = omega arith
Climbs-far from (r ∷ rs) zero (suc j) d e c l h =
    let first = Climbs-at (place_index r.place + 1) rs zero e c.2 (omega arith) in
    let rest = Climbs-far (place_index r.place + 1) rs zero j e e c.2 (omega arith) (omega arith) in
    omega (arith, first.0, rest)
Climbs-far from (r ∷ rs) (suc i) (suc j) d e c l h =
    let rest = Climbs-far (place_index r.place + 1) rs i j d e c.2 (omega arith) (omega arith) in omega arith

-- one row more, after all others
pub Climbs-push : (from : ℕ) (rows : List Row) (r : Row) → Climbs from rows → from ≤ place_index r.place → r.lo ≤ r.hi → All (λ q. place_index q.place < place_index r.place) rows → Climbs from (rows ++ r ∷ [])
Climbs-push from [] r c l h a = (l, h, tt)
Climbs-push from (q ∷ rows) r c l h a =
    let below : place_index q.place < place_index r.place = All-head (λ x. place_index x.place < place_index r.place) q rows a in
    (c.0, c.1, Climbs-push (place_index q.place + 1) rows r c.2 (omega arith) h (All-tail (λ x. place_index x.place < place_index r.place) q rows a))

-- where a row stands at another place than the one that is sought, rows up to it, or from it on, are away from that
-- place, and so are those that are farther from it than the places are
module _ (rows : List Row) (m key : ℕ) (d : Row) (climbs : Climbs 0 rows) (within : m < length rows) where
  here : (e : Row) → place_index (get_or rows m e).place ≡ place_index (get_or rows m d).place
  here e = rw (get_or_default rows m e d within) refl

  pub rows_below : place_index (get_or rows m d).place < key → (k : ℕ) (e : Row) → k < m + 1 → place_index (get_or rows k e).place < key
  rows_below l k e u = omega (arith, here e, Climbs-far 0 rows k m e d climbs (omega arith) within)

  pub rows_far_above : place_index (get_or rows m d).place < key → (to : ℕ) → ((k : ℕ) (e : Row) → to ≤ k → k < length rows → key < place_index (get_or rows k e).place) → (k : ℕ) (e : Row) → (m + 1) + min (to - (m + 1)) (key - place_index (get_or rows m d).place) ≤ k → k < length rows → key < place_index (get_or rows k e).place
  rows_far_above l to above k e u h =
      let split : (to ≤ k) ⊎ ((m + 1) + (key - place_index (get_or rows m d).place) ≤ k) = grind arith in
      elim split [ inl past ↦ above k e past h | inr far ↦ omega (arith, Climbs-far 0 rows m k d e climbs (omega arith) h) ]

  pub rows_above : key < place_index (get_or rows m d).place → (k : ℕ) (e : Row) → m ≤ k → k < length rows → key < place_index (get_or rows k e).place
  rows_above l k e u h = omega (arith, Climbs-far 0 rows m k d e climbs u h)

  pub rows_far_below : key < place_index (get_or rows m d).place → (from : ℕ) → ((k : ℕ) (e : Row) → k < from → place_index (get_or rows k e).place < key) → (k : ℕ) (e : Row) → k < m - min (m - from) (place_index (get_or rows m d).place - key) → place_index (get_or rows k e).place < key
  rows_far_below l from below k e u =
      let split : (k < from) ⊎ (k + (place_index (get_or rows m d).place - key) < m) = grind arith in
      elim split [ inl before ↦ below k e before | inr far ↦ omega (arith, Climbs-far 0 rows k m e d climbs (omega arith) within) ]

-- a row in the place of another at the same place
pub Climbs-set : (from : ℕ) (rows : List Row) (i : ℕ) (d left : Row) → Climbs from rows → i < length rows → place_index left.place ≡ place_index (get_or rows i d).place → left.lo ≤ left.hi → Climbs from (set rows i left)
Climbs-set from [] i d left c h at le = absurd (omega arith)
Climbs-set from (r ∷ rs) zero d left c h at le = (omega arith, le, rw at c.2)
Climbs-set from (r ∷ rs) (suc i) d left c h at le = (c.0, c.1, Climbs-set (place_index r.place + 1) rs i d left c.2 (omega arith) at le)

-- rows without one of them
pub Climbs-remove : (from : ℕ) (rows : List Row) (i : ℕ) → Climbs from rows → Climbs from (remove rows i)
Climbs-remove from [] i c = Climbs-nil from i
  where
    Climbs-nil : (from i : ℕ) → Climbs from (remove [] i)
    Climbs-nil from zero = tt
    Climbs-nil from (suc i) = tt
Climbs-remove from (r ∷ rs) zero c = let below : from ≤ place_index r.place = c.0 in Climbs-lower from (place_index r.place + 1) rs (omega arith) c.2
Climbs-remove from (r ∷ rs) (suc i) c = (c.0, c.1, Climbs-remove (place_index r.place + 1) rs i c.2)
