-- The ends of rows, and the least of a measure over the choices of a domain, beside the least with those that it has lost.
use Rattle.base.proofs.Public.{◌≡◌, ℕ, ◌+◌, ◌<◌, ◌≤◌, false, length, max, zero, suc, Option, Some, None, List, [], ◌∷◌, unwrap_or, refl, sym, ◌∙◌, inl, inr, arith, filter, slice_index_or, Contains, false≢true}
use Rattle.domains.proofs.Public.{least_of_each, lowest_before}
use Rattle.reasons.proofs.Public.{ends_of_rows}
use Rattle.standings.proofs.Public.{all_stay}
use Rattle.cluster.specs.declared.choices.Choice.TheVariants.{Idle}
use Rattle.cluster.specs.declared.choices.Place.{Place}
use Rattle.domains.specs.declared.parts.Row.{Row}
use Rattle.domains.specs.declared.undo.Lost.{Lost}
use Rattle.domains.specs.Prelude.{lost_choices, lowest, place_index, restored, stays}
use Rattle.machine_bounds.specs.Prelude.{Act, AreFewer, Choice, choices, Climbs, DomainView, Instance, IsEnd, least, leave_climbs, leave_of, no_row, row_at}

-- ---- rows

pub row_order : (from : ℕ) (rows : List Row) (i : ℕ) → Climbs from rows → i < length rows → (slice_index_or rows i no_row).lo ≤ (slice_index_or rows i no_row).hi
row_order from [] i c h = absurd (omega (arith, h))
row_order from (r ∷ rs) zero c h = c.1
row_order from (r ∷ rs) (suc i) c h = row_order (place_index r.place + 1) rs i c.2 (omega (arith, h))

-- the first start of a row is an end of the choices
pub row_end : (d : DomainView) (rows : List Row) (i : ℕ) → rows ≡ d.rows → Climbs 0 rows → i < length rows → IsEnd (choices d) (Act (slice_index_or rows i no_row).place (slice_index_or rows i no_row).lo)
row_end d rows i same climbs low =
    rw same ((ends_of_rows d (rw same at climbs) (Act (row_at d i).place (row_at d i).lo)).1 (i, rw same at low, refl, inl refl))

-- where no row keeps the host longer, and it may not stay, no end does
pub ends_left : (p : Instance) (v t : ℕ) (d : DomainView) (rows : List Row) → rows ≡ d.rows → Climbs 0 rows → d.idle ≡ false → ((i : ℕ) → i < length rows → leave_of p v (Act (slice_index_or rows i no_row).place (slice_index_or rows i no_row).hi) ≤ t) → (c : Choice) → IsEnd (choices d) c → leave_of p v c ≤ t
ends_left p v t d rows same climbs none last c end = by c end
  where
    own : Climbs 0 d.rows
    own = rw same at climbs

    row : (i u : ℕ) (q : Place) → i < length d.rows → (row_at d i).place ≡ q → u ≤ (row_at d i).hi → leave_of p v (Act q u) ≤ t
    row i u q low place l =
        let most : leave_of p v (Act (row_at d i).place (row_at d i).hi) ≤ t = (rw same at last) i low in
        let here : leave_of p v (Act q (row_at d i).hi) ≤ t = rw place at most in
        omega (arith, here, leave_climbs p v q u (row_at d i).hi l)

    by : (c : Choice) → IsEnd (choices d) c → leave_of p v c ≤ t
    by Idle end = absurd (false≢true (sym none ∙ (ends_of_rows d own Idle).0 end))
    by (Act q u) end =
        let r = (ends_of_rows d own (Act q u)).0 end in
        row r.0 u q r.1 r.2 (elim r.3 [ inl first ↦ omega (arith, first, row_order 0 d.rows r.0 own r.1) | inr last ↦ omega (arith, last) ])

-- ---- the least of a measure

-- the least of what is raised is no less than the least
raised : (f : Choice → ℕ) (a : ℕ) (cs : List Choice) → least f cs ≤ least (λ c. max a (f c)) cs
raised f a [] = omega arith
raised f a (c ∷ []) = omega arith
raised f a (c ∷ d ∷ cs) = let rest = raised f a (d ∷ cs) in omega (arith, rest)

pub least_raised : (f : Choice → ℕ) (a : ℕ) (cs : List Choice) (found : Option ℕ) → found ≡ lowest (λ c. max a (f c)) (filter (stays None) cs) → least f cs ≤ unwrap_or found 0
least_raised f a cs found is = rw (is, all_stay cs) (raised f a cs)

-- ---- what was lost

-- nothing was lost that has one
pub none_lost : (f : Choice → ℕ) (lost : Lost) (d : DomainView) → AreFewer (choices d) (choices (restored lost d)) → lowest f (lost_choices lost) ≡ None → least f (choices d) ≤ least f (choices (restored lost d))
none_lost f lost d fewer none = at (lowest f (choices d)) refl
  where
    at : (o : Option ℕ) → lowest f (choices d) ≡ o → least f (choices d) ≤ least f (choices (restored lost d))
    at None e = rw (lowest_before f lost d fewer, none, e) (omega arith)
    at (Some a) e = rw (lowest_before f lost d fewer, none, e) (omega arith)

-- a choice that is left has no more than all that were lost
pub as_soon : (f : Choice → ℕ) (lost : Lost) (d : DomainView) (c : Choice) (first : ℕ) → AreFewer (choices d) (choices (restored lost d)) → lowest f (lost_choices lost) ≡ Some first → Contains (choices d) c → f c ≤ first → least f (choices d) ≤ least f (choices (restored lost d))
as_soon f lost d c first fewer is there soon = at (lowest f (choices d)) refl
  where
    low : least f (choices d) ≤ first
    low = omega (arith, least_of_each f (choices d) c there, soon)

    at : (o : Option ℕ) → lowest f (choices d) ≡ o → least f (choices d) ≤ least f (choices (restored lost d))
    at None e = rw (lowest_before f lost d fewer, is, e) (rw e at low)
    at (Some a) e = let few : a ≤ first = rw e at low in rw (lowest_before f lost d fewer, is, e) (omega (arith, few))
