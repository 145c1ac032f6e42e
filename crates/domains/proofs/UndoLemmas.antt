-- A row that is put back.
use Rattle.base.proofs.Public.{◌≡◌, ◌⊎◌, inl, inr, ℕ, zero, suc, ◌+◌, ◌<◌, ◌≤◌, nat_lt, true, false, List, [], ◌∷◌, refl, ap, ◌∙◌, arith, length, get_or, set, insert, remove, nat_tests, set-set, set-get_or, length-set, get_or-set_same}
use Rattle.domains.specs.Prelude.{Climbs, IsFound, IsGap, place_index, put_row, Row, same_place}
use Rattle.domains.proofs.RowLemmas.{Climbs-at, Climbs-lower, Climbs-set}

-- a row goes past those at lower places, and before those at higher ones
put_past : (r q : Row) (rows : List Row) → place_index q.place < place_index r.place → put_row r (q ∷ rows) ≡ q ∷ put_row r rows
put_past r q rows l =
    let other : same_place q.place r.place ≡ false = grind (arith, nat_tests) in
    let less : nat_lt (place_index q.place) (place_index r.place) ≡ true = grind (arith, nat_tests) in
    rw (other, less) refl

put_before : (r q : Row) (rows : List Row) → place_index r.place < place_index q.place → put_row r (q ∷ rows) ≡ r ∷ q ∷ rows
put_before r q rows l =
    let other : same_place q.place r.place ≡ false = grind (arith, nat_tests) in
    let more : nat_lt (place_index q.place) (place_index r.place) ≡ false = grind (arith, nat_tests) in
    rw (other, more) refl

put_same : (r q : Row) (rows : List Row) → place_index q.place ≡ place_index r.place → put_row r (q ∷ rows) ≡ r ∷ rows
put_same r q rows e =
    let same : same_place q.place r.place ≡ true = grind (arith, nat_tests) in
    rw same refl

-- where a row is at its place, it is replaced
put-set : (r d : Row) (from : ℕ) (rows : List Row) (i : ℕ) → Climbs from rows → i < length rows → place_index (get_or rows i d).place ≡ place_index r.place → put_row r rows ≡ set rows i r
put-set r d from [] i c h e = absurd (omega arith)
put-set r d from (q ∷ qs) zero c h e = put_same r q qs e
put-set r d from (q ∷ qs) (suc i) c h e =
    let there = Climbs-at (place_index q.place + 1) qs i d c.2 (omega arith) in
    put_past r q qs (omega arith) ∙ ap (λ l. q ∷ l) (put-set r d (place_index q.place + 1) qs i c.2 (omega arith) e)

pub put_found : (r : Row) (rows : List Row) (i : ℕ) → Climbs 0 rows → IsFound rows (place_index r.place) i → put_row r rows ≡ set rows i r
put_found r rows i c found = put-set r r 0 rows i c found.within (found.same r)

-- and else it goes where it is due
put-insert : (r : Row) (rows : List Row) (i : ℕ) → i ≤ length rows → ((k : ℕ) (d : Row) → k < i → place_index (get_or rows k d).place < place_index r.place) → ((k : ℕ) (d : Row) → i ≤ k → k < length rows → place_index r.place < place_index (get_or rows k d).place) → put_row r rows ≡ insert rows i r
put-insert r [] zero h below above = refl
put-insert r [] (suc i) h below above = absurd (omega arith)
put-insert r (q ∷ qs) zero h below above = put_before r q qs (above 0 q (omega arith) (omega arith))
put-insert r (q ∷ qs) (suc i) h below above =
    put_past r q qs (below 0 q (omega arith))
    ∙ ap (λ l. q ∷ l) (put-insert r qs i (omega arith) (λ k d l. below (suc k) d (omega arith)) (λ k d l u. above (suc k) d (omega arith) (omega arith)))

pub put_gap : (r : Row) (rows : List Row) (i : ℕ) → IsGap rows (place_index r.place) i → put_row r rows ≡ insert rows i r
put_gap r rows i gap = put-insert r rows i gap.within gap.below gap.above

-- rows still climb with a row that is put among them
pub Climbs-put : (from : ℕ) (r : Row) (rows : List Row) → Climbs from rows → from ≤ place_index r.place → r.lo ≤ r.hi → Climbs from (put_row r rows)
Climbs-put from r [] c l h = (l, h, tt)
Climbs-put from r (q ∷ qs) c l h =
    by_order (λ past. Climbs-put (place_index q.place + 1) r qs c.2 past h) (grind arith)
  where
    by_order : (place_index q.place + 1 ≤ place_index r.place → Climbs (place_index q.place + 1) (put_row r qs)) → (place_index q.place ≡ place_index r.place) ⊎ ((place_index q.place < place_index r.place) ⊎ (place_index r.place < place_index q.place)) → Climbs from (put_row r (q ∷ qs))
    by_order rest (inl e) = rw (put_same r q qs e) (l, h, Climbs-lower (place_index r.place + 1) (place_index q.place + 1) qs (omega arith) c.2)
    by_order rest (inr (inl past)) = rw (put_past r q qs past) (c.0, c.1, rest (omega arith))
    by_order rest (inr (inr before)) = rw (put_before r q qs before) (l, h, (omega arith, c.1, c.2))

-- a row that was removed comes back
pub put-remove : (d : Row) (from : ℕ) (rows : List Row) (i : ℕ) → Climbs from rows → i < length rows → put_row (get_or rows i d) (remove rows i) ≡ rows
put-remove d from [] i c h = absurd (omega arith)
put-remove d from (r ∷ []) zero c h = refl
put-remove d from (r ∷ q ∷ qs) zero c h = put_before r q qs (omega arith)
put-remove d from (r ∷ rs) (suc i) c h =
    let there = Climbs-at (place_index r.place + 1) rs i d c.2 (omega arith) in
    put_past (get_or rs i d) r (remove rs i) (omega arith) ∙ ap (λ l. r ∷ l) (put-remove d (place_index r.place + 1) rs i c.2 (omega arith))

-- and so does one that was changed
pub put_set : (d left : Row) (rows : List Row) (i : ℕ) → Climbs 0 rows → i < length rows → place_index left.place ≡ place_index (get_or rows i d).place → left.lo ≤ left.hi → put_row (get_or rows i d) (set rows i left) ≡ rows
put_set d left rows i c h e le =
    put-set (get_or rows i d) d 0 (set rows i left) i (Climbs-set 0 rows i d left c h e le) (omega (arith, length-set rows i left))
    (ap (λ r. place_index r.place) (get_or-set_same rows i left d h) ∙ e)
    ∙ set-set rows i left (get_or rows i d)
    ∙ set-get_or rows i d
