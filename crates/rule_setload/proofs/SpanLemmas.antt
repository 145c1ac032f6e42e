-- Between which numbers the nodes of a set stand, and the rows that are outside.
use Rattle.rule_setload.proofs.Prelude.{◌≡◌, ◌⊎◌, inl, inr, ℕ, zero, suc, ◌+◌, ◌-◌, ◌<◌, ◌≤◌, Bool, true, false, false≢true, List, [], ◌∷◌, length, slice_index_or, refl, sym, ◌∙◌, arith, cases_lt, Place}
use Rattle.rule_setload.specs.Prelude.{Act, At, Climbs, goes_in, has_node, IsSpan, max_nodes, no_row, Nodes, NodeSet, Nowhere, place_index, Row, Span}
use Rattle.base.proofs.Public.{get_or_default}
use Rattle.cluster.proofs.Public.{has_node-past}
use Rattle.cluster.specs.Sets.{IsFirstFrom, IsWithin}

-- ---- sets of nodes

pub none_past : (nodes : NodeSet) → IsWithin nodes max_nodes
none_past nodes m past = has_node-past nodes m past

pub none_spanned : (nodes : NodeSet) (x : Span) → IsWithin nodes 0 → IsSpan (has_node nodes) x
none_spanned nodes x none m on = absurd (false≢true (sym (none m (omega arith)) ∙ on))

pub all_spanned : (nodes : NodeSet) (x : Span) → IsWithin nodes x.end → IsFirstFrom nodes 0 x.first → IsSpan (has_node nodes) x
all_spanned nodes x within first m on = (low, high)
  where
    low : x.first ≤ m
    low = elim (cases_lt m x.first) [ inl before ↦ absurd (false≢true (sym (first.none m (omega arith) before) ∙ on)) | inr from ↦ from ]

    high : m < x.end
    high = elim (cases_lt m x.end) [ inl before ↦ before | inr past ↦ absurd (false≢true (sym (within m past) ∙ on)) ]

-- ---- rows in their order

climbs-at : (from : ℕ) (rows : List Row) (i : ℕ) (d : Row) → Climbs from rows → i < length rows → from + i ≤ place_index (slice_index_or rows i d).place
climbs-at from [] i d c h = absurd (omega (arith, h))
climbs-at from (r ∷ rs) zero d c h = let here : from ≤ place_index r.place = c.0 in omega (arith, here)
climbs-at from (r ∷ rs) (suc i) d c h =
    let rest = climbs-at (place_index r.place + 1) rs i d c.2 (omega (arith, h)) in
    let here : from ≤ place_index r.place = c.0 in
    omega (arith, here, rest)

-- a row that is so many rows behind another one is at least so many places behind it
climbs-up : (from : ℕ) (rows : List Row) (i j : ℕ) (d : Row) → Climbs from rows → i ≤ j → j < length rows → place_index (slice_index_or rows i d).place + j ≤ place_index (slice_index_or rows j d).place + i
climbs-up from [] i j d c l h = absurd (omega (arith, h))
climbs-up from (r ∷ rs) zero zero d c l h = omega arith
climbs-up from (r ∷ rs) zero (suc j) d c l h =
    let there = climbs-at (place_index r.place + 1) rs j d c.2 (omega (arith, h)) in omega (arith, there)
climbs-up from (r ∷ rs) (suc i) zero d c l h = absurd (omega (arith, l))
climbs-up from (r ∷ rs) (suc i) (suc j) d c l h =
    let there = climbs-up (place_index r.place + 1) rs i j d c.2 (omega (arith, l)) (omega (arith, h)) in omega (arith, there)

module _ (rows : List Row) (climbs : Climbs 0 rows) (m n : ℕ) (d : Row) (low : m < length rows) where
  here : place_index (slice_index_or rows m no_row).place ≡ place_index (slice_index_or rows m d).place
  here = rw (get_or_default rows m no_row d low) refl

  pub all_before : place_index (slice_index_or rows m d).place ≤ n → (k : ℕ) → k < m + 1 → place_index (slice_index_or rows k no_row).place ≤ n
  all_before l k to = omega (arith, here, l, climbs-up 0 rows k m no_row climbs (omega (arith, to)) low)

  pub all_behind : n < place_index (slice_index_or rows m d).place → (k : ℕ) → m ≤ k → k < length rows → n < place_index (slice_index_or rows k no_row).place
  all_behind l k from to = omega (arith, here, l, climbs-up 0 rows m k no_row climbs from to)

-- ---- rows outside

module _ (set : Nodes) (x : Span) (span : IsSpan set x) where
  before-out : (place : Place) → place_index place ≤ x.first → goes_in (Act place 0) set ≡ false
  before-out Nowhere l = refl
  before-out (At n) l = at (set n.0) refl
    where
      at : (b : Bool) → set n.0 ≡ b → set n.0 ≡ false
      at true on = absurd (omega (arith, l, (span n.0 on).0))
      at false off = off

  behind-out : (place : Place) → x.end < place_index place → goes_in (Act place 0) set ≡ false
  behind-out Nowhere l = refl
  behind-out (At n) l = at (set n.0) refl
    where
      at : (b : Bool) → set n.0 ≡ b → set n.0 ≡ false
      at true on = absurd (omega (arith, l, (span n.0 on).1))
      at false off = off

  rows-outside : (rows : List Row) (from to : ℕ) → ((k : ℕ) → k < from → place_index (slice_index_or rows k no_row).place ≤ x.first) → ((k : ℕ) → to ≤ k → k < length rows → x.end < place_index (slice_index_or rows k no_row).place) →
      (k : ℕ) → k < length rows → (k < from) ⊎ (to ≤ k) → goes_in (Act (slice_index_or rows k no_row).place 0) set ≡ false
  rows-outside rows from to before behind k low outer = elim outer [ inl early ↦ before-out (slice_index_or rows k no_row).place (before k early) | inr late ↦ behind-out (slice_index_or rows k no_row).place (behind k late low) ]

  -- of the rows behind the first place so many are between as there are places
  pub rows_outside : (rows : List Row) (from to : ℕ) → Climbs 0 rows → ((k : ℕ) → k < from → place_index (slice_index_or rows k no_row).place ≤ x.first) → ((k : ℕ) → from ≤ k → k < length rows → x.first < place_index (slice_index_or rows k no_row).place) →
      ((k : ℕ) → to ≤ k → k < length rows → from + (x.end - x.first) ≤ k) → (k : ℕ) → k < length rows → (k < from) ⊎ (to ≤ k) → goes_in (Act (slice_index_or rows k no_row).place 0) set ≡ false
  rows_outside rows from to climbs before behind many = rows-outside rows from to before (λ k late low. let far = many k late low in
      let first = behind from (omega arith) (omega (arith, far, low)) in
      omega (arith, far, first, climbs-up 0 rows from k no_row climbs (omega (arith, far)) low))
