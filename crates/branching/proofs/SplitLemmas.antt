-- Parts of a domain with two choices that hold one and leave one out.
use Rattle.base.proofs.Public.{◌≡◌, ◌≢◌, ◌⊎◌, inl, inr, ℕ, zero, suc, ◌+◌, ◌-◌, ◌/◌, ◌<◌, ◌≤◌, ◌==◌, ◌&&◌, nat_le, not, Bool, true, false, cond, List, [], ◌∷◌, ◌++◌, length, refl, arith, Contains, filter, flat_map, nat_tests}
use Rattle.branching.specs.Prelude.{Act, Choice, choices, Climbs, DomainView, first_start, Idle, in_part, IsOpen, out_of_part, Place, place_index, Row, row_choices, row_of, Splits, Upto}
use Rattle.cluster.specs.declared.choices.Choice.TheVariants.{Idle as Stay}
use Rattle.domains.proofs.Public.{contains_filter}
use Rattle.reasons.proofs.Public.{ends_of_rows}

-- ---- rows in order

row_from : (from : ℕ) (rows : List Row) (i : ℕ) → Climbs from rows → i < length rows → (from ≤ place_index (row_of rows i).place) × ((row_of rows i).lo ≤ (row_of rows i).hi)
row_from from [] i c h = absurd (omega arith)
row_from from (r ∷ rs) zero c h = (c.0, c.1)
row_from from (r ∷ rs) (suc i) c h =
    let rest = row_from (place_index r.place + 1) rs i c.2 (omega arith) in
    (omega (arith, rest.0, c.0), rest.1)

rows_apart : (from : ℕ) (rows : List Row) (i j : ℕ) → Climbs from rows → i < j → j < length rows → place_index (row_of rows i).place < place_index (row_of rows j).place
rows_apart from [] i j c l h = absurd (omega arith)
rows_apart from (r ∷ rs) i zero c l h = absurd (omega arith)
rows_apart from (r ∷ rs) zero (suc j) c l h = let at = row_from (place_index r.place + 1) rs j c.2 (omega arith) in omega (arith, at.0)
rows_apart from (r ∷ rs) (suc i) (suc j) c l h = rows_apart (place_index r.place + 1) rs i j c.2 (omega arith) (omega arith)

-- of two rows at least there is one at another place
other_row : (rows : List Row) (i : ℕ) → Climbs 0 rows → i < length rows → 1 < length rows → (j : ℕ) × (j < length rows) × (place_index (row_of rows j).place ≢ place_index (row_of rows i).place)
other_row rows zero c h two = let l = rows_apart 0 rows 0 1 c (omega arith) two in (1, two, λ e. absurd (omega (arith, e, l)))
other_row rows (suc i) c h two = let l = rows_apart 0 rows 0 (suc i) c (omega arith) h in (0, omega arith, λ e. absurd (omega (arith, e, l)))

-- ---- choices that are held

idle_in : (d : DomainView) → Climbs 0 d.rows → d.idle ≡ true → Contains (choices d) Stay
idle_in d c h = (ends_of_rows d c Stay).1 h

first_in : (d : DomainView) → Climbs 0 d.rows → (k : ℕ) → k < length d.rows → Contains (choices d) (Act (row_of d.rows k).place (row_of d.rows k).lo)
first_in d c k h = ((ends_of_rows d c (Act (row_of d.rows k).place (row_of d.rows k).lo)).1 (k, h, refl, inl refl)).0

last_in : (d : DomainView) → Climbs 0 d.rows → (k : ℕ) → k < length d.rows → Contains (choices d) (Act (row_of d.rows k).place (row_of d.rows k).hi)
last_in d c k h = ((ends_of_rows d c (Act (row_of d.rows k).place (row_of d.rows k).hi)).1 (k, h, refl, inr refl)).0

passes : (test : Choice → Bool) (cs : List Choice) (c : Choice) → Contains cs c → test c ≡ true → filter test cs ≢ []
passes test cs c h t e = let none : Contains [] c = rw e at (contains_filter test cs c h t) in absurd (omega (arith, none.1))

inside : (p q : Place) (s u : ℕ) → place_index p ≡ place_index q → s ≤ u → in_part (Upto q u) (Act p s) ≡ true
inside p q s u e l = grind (arith, nat_tests)

later : (p q : Place) (s u : ℕ) → u < s → out_of_part (Upto q u) (Act p s) ≡ true
later p q s u l = let f : nat_le s u ≡ false = grind (arith, nat_tests) in rw f (either (place_index p == place_index q))
  where
    either : (b : Bool) → not (b && false) ≡ true
    either true = refl
    either false = refl

elsewhere : (p q : Place) (s u : ℕ) → place_index p ≢ place_index q → out_of_part (Upto q u) (Act p s) ≡ true
elsewhere p q s u ne = let f : (place_index p == place_index q) ≡ false = grind (arith, nat_tests) in rw f refl

-- ---- parts that split

-- Idle, where there is a row as well
pub splits_idle : (d : DomainView) → Climbs 0 d.rows → d.idle ≡ true → 0 < length d.rows → Splits d Idle
splits_idle d c idle some = record {
  some_inside = passes (in_part Idle) (choices d) Stay (idle_in d c idle) refl;
  some_outside = passes (out_of_part Idle) (choices d) (Act (row_of d.rows 0).place (row_of d.rows 0).lo) (first_in d c 0 some) refl;
}

-- the starts of a row up to an instant, where there is another row or a later start
pub splits_row : (d : DomainView) → Climbs 0 d.rows → (k s : ℕ) → k < length d.rows → (row_of d.rows k).lo ≤ s → (1 < length d.rows) ⊎ (s < (row_of d.rows k).hi) → Splits d (Upto (row_of d.rows k).place s)
splits_row d c k s h l more = record {
  some_inside = passes (in_part (Upto (row_of d.rows k).place s)) (choices d) (Act (row_of d.rows k).place (row_of d.rows k).lo) (first_in d c k h) (inside (row_of d.rows k).place (row_of d.rows k).place (row_of d.rows k).lo s refl l);
  some_outside = left_out more;
}
  where
    left_out : (1 < length d.rows) ⊎ (s < (row_of d.rows k).hi) → filter (out_of_part (Upto (row_of d.rows k).place s)) (choices d) ≢ []
    left_out (inl two) =
        let j = other_row d.rows k c h two in
        passes (out_of_part (Upto (row_of d.rows k).place s)) (choices d) (Act (row_of d.rows j.0).place (row_of d.rows j.0).lo) (first_in d c j.0 j.1) (elsewhere (row_of d.rows j.0).place (row_of d.rows k).place (row_of d.rows j.0).lo s j.2)
    left_out (inr after) = passes (out_of_part (Upto (row_of d.rows k).place s)) (choices d) (Act (row_of d.rows k).place (row_of d.rows k).hi) (last_in d c k h) (later (row_of d.rows k).place (row_of d.rows k).place (row_of d.rows k).hi s after)

-- ---- what a domain with two choices has

-- a row, and without Idle a second one or a second start
row_or_two : (idle : Bool) (rows : List Row) → 2 ≤ length (cond idle (Stay ∷ []) [] ++ flat_map row_choices rows) → 0 < length rows
row_or_two true [] h = absurd (omega arith)
row_or_two false [] h = absurd (omega arith)
row_or_two idle (r ∷ rs) h = omega arith

pub has_row : (d : DomainView) → IsOpen d → 0 < length d.rows
has_row d two = row_or_two d.idle d.rows two

more_than_one : (rows : List Row) → Climbs 0 rows → 2 ≤ length (flat_map row_choices rows) → (1 < length rows) ⊎ ((row_of rows 0).lo < (row_of rows 0).hi)
more_than_one [] c h = absurd (omega arith)
more_than_one (r ∷ []) c h =
    let split : (r.lo ≡ r.hi) ⊎ (r.lo < r.hi) = grind (arith, c.1) in
    elim split [
      | inl one ↦
          let count : r.hi + 1 - r.lo ≡ 1 = omega arith in
          let bad : 2 ≤ 1 = rw count at h in
          absurd (omega (arith, bad))
      | inr two ↦ inr two
    ]
more_than_one (r ∷ q ∷ rs) c h = inl (omega arith)

pub has_more : (d : DomainView) → Climbs 0 d.rows → IsOpen d → d.idle ≡ false → (1 < length d.rows) ⊎ ((row_of d.rows 0).lo < (row_of d.rows 0).hi)
has_more d c two acts = more_than_one d.rows c (rw acts at two)

-- ---- the parts that branchers take

-- the row of any number will do where there are two rows, and else there is the first one
more_at : (rows : List Row) (k : ℕ) → k < length rows → (1 < length rows) ⊎ ((row_of rows 0).lo < (row_of rows 0).hi) → (1 < length rows) ⊎ ((row_of rows k).lo < (row_of rows k).hi)
more_at rows zero h more = more
more_at rows (suc k) h more = inl (omega arith)

-- the first start of a row
pub splits_first : (d : DomainView) → Climbs 0 d.rows → IsOpen d → d.idle ≡ false → (k : ℕ) → k < length d.rows → Splits d (first_start (row_of d.rows k))
splits_first d c two acts k h = splits_row d c k (row_of d.rows k).lo h (omega arith) (more_at d.rows k h (has_more d c two acts))

-- the first half of the first row
pub splits_half : (d : DomainView) → Climbs 0 d.rows → IsOpen d → d.idle ≡ false → Splits d (Upto (row_of d.rows 0).place ((row_of d.rows 0).lo + ((row_of d.rows 0).hi - (row_of d.rows 0).lo) / 2))
splits_half d c two acts =
    let some = has_row d two in
    let order = (row_from 0 d.rows 0 c some).1 in
    splits_row d c 0 ((row_of d.rows 0).lo + ((row_of d.rows 0).hi - (row_of d.rows 0).lo) / 2) some (omega (arith, order)) (elim (has_more d c two acts) [ inl two_rows ↦ inl two_rows | inr later ↦ inr (omega (arith, later)) ])

-- rows that are some and not one are several
pub several : (n : ℕ) → 0 < n → n ≢ 1 → 1 < n
several zero some more = absurd (omega arith)
several (suc zero) some more = absurd (more refl)
several (suc (suc n)) some more = omega arith

-- a whole row of several
pub splits_whole : (d : DomainView) → Climbs 0 d.rows → 1 < length d.rows → (k : ℕ) → k < length d.rows → Splits d (Upto (row_of d.rows k).place (row_of d.rows k).hi)
splits_whole d c two k h = splits_row d c k (row_of d.rows k).hi h (row_from 0 d.rows k c h).1 (inl two)

-- ---- the row that starts first

-- of the first so many rows
pub record StartsFirstUpto (rows : List Row) (n k : ℕ) : Type 0 where
  pub within : k < n
  pub least : (j : ℕ) → j < n → (row_of rows k).lo ≤ (row_of rows j).lo
  pub first : (j : ℕ) → j < k → (row_of rows k).lo < (row_of rows j).lo
