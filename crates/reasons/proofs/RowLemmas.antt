-- The choices of a domain by its rows, and so their ends.
use Rattle.std.proofs.Common.{slice_index_or}
use Rattle.base.proofs.Public.{◌≡◌, ◌⊎◌, inl, inr, ℕ, zero, suc, ◌+◌, ◌-◌, ◌<◌, ◌≤◌, Bool, true, false, cond, List, [], ◌∷◌, length, Some, refl, sym, ap, ◌∙◌, arith, Contains, flat_map, cases_lt, get_or_past, Contains-append_cases, Contains-append_left, Contains-append_right}
use Rattle.reasons.specs.Prelude.{Act, Choice, choices, Climbs, domain_at, DomainView, Element, EndsOfRows, HasElement, Instance, IsElement, IsEnd, IsRegionOf, IsRowEnd, IsRowTurn, machine_count, no_row, Node as TheNode, node_count, place_index, RegionIsOf, RegionView, Row, row_at, row_choices, sets, start_of, starts_from, staying, TurnsOfRows, Vm}
use Rattle.cluster.specs.declared.choices.Choice.TheVariants.{Idle}
use Rattle.cluster.specs.declared.choices.Place.{Place}
use Rattle.reasons.proofs.ClosedLemmas.{end-contained}
use Rattle.reasons.proofs.MemberLemmas.{cases-in, first-in, later-in, none-in}

-- ---- the starts at one place

pub in-starts : (q : Place) (from count : ℕ) (c : Choice) → Contains (starts_from q from count) c → (s : ℕ) × (from ≤ s) × (s < from + count) × (c ≡ Act q s)
in-starts q from zero c h = absurd (none-in c h)
in-starts q from (suc count) c h =
    elim (cases-in (Act q from) c (starts_from q (from + 1) count) h) [
      | inl here ↦ (from, omega arith, omega arith, sym here)
      | inr later ↦ let rest = in-starts q (from + 1) count c later in (rest.0, omega (arith, rest.1), omega (arith, rest.2), rest.3)
    ]

pub starts-in : (q : Place) (from count s : ℕ) → from ≤ s → s < from + count → Contains (starts_from q from count) (Act q s)
starts-in q from zero s l u = absurd (omega arith)
starts-in q from (suc count) s l u =
    let split : (from ≡ s) ⊎ (from + 1 ≤ s) = grind arith in
    elim split [
      | inl here ↦ rw (← here) (first-in (Act q from) (starts_from q (from + 1) count))
      | inr later ↦ later-in (Act q from) (Act q s) (starts_from q (from + 1) count) (starts-in q (from + 1) count s later (omega arith))
    ]

-- ---- rows

-- the row of a number holds a start at the place
record IsHolder (rows : List Row) (place : Place) (s i : ℕ) : Type 0 where
  within : i < length rows
  at : (slice_index_or rows i no_row).place ≡ place
  low : (slice_index_or rows i no_row).lo ≤ s
  high : s ≤ (slice_index_or rows i no_row).hi

act-place : (q r : Place) (s u : ℕ) → Act q s ≡ Act r u → q ≡ r
act-place q r s u e = cc

act-start : (q r : Place) (s u : ℕ) → Act q s ≡ Act r u → s ≡ u
act-start q r s u e = cc

holder : (rows : List Row) (place : Place) (s : ℕ) → Contains (flat_map row_choices rows) (Act place s) → (i : ℕ) × IsHolder rows place s i
holder [] place s h = absurd (none-in (Act place s) h)
holder (r ∷ rs) place s h =
    elim (Contains-append_cases (row_choices r) (flat_map row_choices rs) (Act place s) h) [
      | inl here ↦
          let x = in-starts r.place r.lo (r.hi + 1 - r.lo) (Act place s) here in
          let same : s ≡ x.0 = act-start place r.place s x.0 x.3 in
          (0, record { within = omega arith; at = sym (act-place place r.place s x.0 x.3); low = omega (arith, x.1, same); high = omega (arith, x.2, same) })
      | inr later ↦
          let rest = holder rs place s later in
          (suc rest.0, record { within = omega (arith, rest.1.within); at = rest.1.at; low = rest.1.low; high = rest.1.high })
    ]

held-by : (rows : List Row) (i s : ℕ) → i < length rows → (slice_index_or rows i no_row).lo ≤ s → s ≤ (slice_index_or rows i no_row).hi → Contains (flat_map row_choices rows) (Act (slice_index_or rows i no_row).place s)
held-by [] i s h l u = absurd (omega arith)
held-by (r ∷ rs) zero s h l u = Contains-append_left (row_choices r) (flat_map row_choices rs) _ (starts-in r.place r.lo (r.hi + 1 - r.lo) s l (omega arith))
held-by (r ∷ rs) (suc i) s h l u = Contains-append_right (row_choices r) (flat_map row_choices rs) _ (held-by rs i s (omega arith) l u)

climbs-at : (from : ℕ) (rows : List Row) (i : ℕ) → Climbs from rows → i < length rows → (from ≤ place_index (slice_index_or rows i no_row).place) × ((slice_index_or rows i no_row).lo ≤ (slice_index_or rows i no_row).hi)
climbs-at from [] i c h = absurd (omega arith)
climbs-at from (r ∷ rs) zero c h = (c.0, c.1)
climbs-at from (r ∷ rs) (suc i) c h =
    let rest = climbs-at (place_index r.place + 1) rs i c.2 (omega arith) in
    (omega (arith, rest.0, c.0), rest.1)

one_row : (from : ℕ) (rows : List Row) (i j : ℕ) → Climbs from rows → i < length rows → j < length rows → place_index (slice_index_or rows i no_row).place ≡ place_index (slice_index_or rows j no_row).place → i ≡ j
one_row from [] i j c h l e = absurd (omega arith)
one_row from (r ∷ rs) zero zero c h l e = refl
one_row from (r ∷ rs) zero (suc j) c h l e = let at = climbs-at (place_index r.place + 1) rs j c.2 (omega arith) in absurd (omega (arith, at.0, e))
one_row from (r ∷ rs) (suc i) zero c h l e = let at = climbs-at (place_index r.place + 1) rs i c.2 (omega arith) in absurd (omega (arith, at.0, e))
one_row from (r ∷ rs) (suc i) (suc j) c h l e = ap suc (one_row (place_index r.place + 1) rs i j c.2 (omega arith) (omega arith) e)

-- ---- the choices of a domain

no_act : (b : Bool) (place : Place) (s : ℕ) → ¬ Contains (cond b (Idle ∷ []) []) (Act place s)
no_act true place s h = elim (cases-in Idle (Act place s) [] h) [ inl same ↦ cc | inr later ↦ none-in (Act place s) later ]
no_act false place s h = none-in (Act place s) h

no_idle : (rows : List Row) → ¬ Contains (flat_map row_choices rows) Idle
no_idle [] h = none-in Idle h
no_idle (r ∷ rs) h =
    elim (Contains-append_cases (row_choices r) (flat_map row_choices rs) Idle h) [
      | inl x ↦ let at = in-starts r.place r.lo (r.hi + 1 - r.lo) Idle x in let bad : Idle ≡ Act r.place at.0 = at.3 in cc
      | inr y ↦ no_idle rs y
    ]

is_idle : (b : Bool) → Contains (cond b (Idle ∷ []) []) Idle → b ≡ true
is_idle true h = refl
is_idle false h = absurd (none-in Idle h)

act-holder : (d : DomainView) (place : Place) (s : ℕ) → Contains (choices d) (Act place s) → (i : ℕ) × IsHolder d.rows place s i
act-holder d place s h =
    elim (Contains-append_cases (cond d.idle (Idle ∷ []) []) (flat_map row_choices d.rows) (Act place s) h) [ inl x ↦ absurd (no_act d.idle place s x) | inr y ↦ holder d.rows place s y ]

row-held : (d : DomainView) (i s : ℕ) → i < length d.rows → (row_at d i).lo ≤ s → s ≤ (row_at d i).hi → Contains (choices d) (Act (row_at d i).place s)
row-held d i s h l u = Contains-append_right (cond d.idle (Idle ∷ []) []) (flat_map row_choices d.rows) _ (held-by d.rows i s h l u)

-- any start at the place of a row is in that row
same-row : (d : DomainView) → Climbs 0 d.rows → (i u : ℕ) → i < length d.rows → Contains (choices d) (Act (row_at d i).place u) → ((row_at d i).lo ≤ u) × (u ≤ (row_at d i).hi)
same-row d c i u h x =
    let r = act-holder d (row_at d i).place u x in
    let same : r.0 ≡ i = one_row 0 d.rows r.0 i c r.1.within h (ap place_index r.1.at) in
    (rw same at r.1.low, rw same at r.1.high)

end-row : (d : DomainView) (c : Choice) → IsEnd (choices d) c → IsRowEnd d c
end-row d Idle h =
    elim (Contains-append_cases (cond d.idle (Idle ∷ []) []) (flat_map row_choices d.rows) Idle h) [ inl x ↦ is_idle d.idle x | inr y ↦ absurd (no_idle d.rows y) ]
end-row d (Act place s) (h, which) =
    let r = act-holder d place s h in
    let row : Row = row_at d r.0 in
    let low : row.lo ≤ s = r.1.low in
    let high : s ≤ row.hi = r.1.high in (
      r.0,
      r.1.within,
      r.1.at,
      elim which [
        | inl lower_all ↦
            let le : s ≤ row.lo = lower_all row.lo (rw r.1.at at (row-held d r.0 row.lo r.1.within (omega arith) (omega arith))) in
            inl (omega arith)
        | inr greatest ↦
            let le : row.hi ≤ s = greatest row.hi (rw r.1.at at (row-held d r.0 row.hi r.1.within (omega arith) (omega arith))) in
            inr (omega arith)
      ],
    )

row-end : (d : DomainView) → Climbs 0 d.rows → (c : Choice) → IsRowEnd d c → IsEnd (choices d) c
row-end d climbs Idle h = Contains-append_left (cond d.idle (Idle ∷ []) []) (flat_map row_choices d.rows) Idle (rw h (first-in Idle []))
row-end d climbs (Act place s) (i, within, at, inl low) =
    let order = (climbs-at 0 d.rows i climbs within).1 in
    rw (← at, ← low) (row-held d i (row_at d i).lo within (omega arith) order, inl (λ u x. (same-row d climbs i u within x).0))
row-end d climbs (Act place s) (i, within, at, inr high) =
    let order = (climbs-at 0 d.rows i climbs within).1 in
    rw (← at, ← high) (row-held d i (row_at d i).hi within order (omega arith), inr (λ u x. (same-row d climbs i u within x).1))

pub ends_of_rows : EndsOfRows
ends_of_rows d climbs c = (end-row d c, row-end d climbs c)

-- ---- regions

pub region_is_of : RegionIsOf
region_is_of p g is (Vm v) =
    elim (cases_lt v.0 (machine_count p)) [
      | inl there ↦ inl there
      | inr past ↦ inr (ap choices (get_or_past g.machines v.0 staying (omega (arith, is.machines, past))))
    ]
region_is_of p g is (TheNode n) =
    elim (cases_lt n.0 (node_count p)) [
      | inl there ↦ inl there
      | inr past ↦ inr (ap choices (get_or_past g.nodes n.0 staying (omega (arith, is.nodes, past))))
    ]

has-element : (p : Instance) (g : RegionView) → IsRegionOf p g → (e : Element) → IsElement p e → HasElement g e
has-element p g is (Vm v) h = omega (arith, is.machines, h)
has-element p g is (TheNode n) h = omega (arith, is.nodes, h)

row_turn : (p : Instance) (g : RegionView) → IsRegionOf p g → (t : ℕ) → (e : Element) (c : Choice) → IsEnd (sets g e) c → start_of c ≡ Some t → IsRowTurn g t
row_turn p g is t e Idle end starts = cc
row_turn p g is t e (Act place s) end starts =
    let same : s ≡ t = cc in
    let r = end-row (domain_at g e) (Act place s) end in
    let turns : ((row_at (domain_at g e) r.0).lo ≡ t) ⊎ ((row_at (domain_at g e) r.0).hi ≡ t) = elim r.3 [ inl low ↦ inl (low ∙ same) | inr high ↦ inr (high ∙ same) ] in
    elim (region_is_of p g is e) [
      | inl there ↦ record { element = e; row = r.0; there = has-element p g is e there; within = r.1; turns = turns }
      | inr idle ↦ absurd (no_act true place s (rw idle at (end-contained (sets g e) (Act place s) end)))
    ]

pub turns_of_rows : TurnsOfRows
turns_of_rows p g is t (inl first) = inl first
turns_of_rows p g is t (inr (inl last)) = inr (inl last)
turns_of_rows p g is t (inr (inr x)) = inr (inr (row_turn p g is t x.element x.choice x.is_end x.starts))
