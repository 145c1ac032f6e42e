-- The least end of an element before it lost choices, and after.
use Rattle.base.proofs.Public.{◌≡◌, ℕ, ◌+◌, ◌<◌, ◌≤◌, Contains, length, max, slice_index_or, unwrap_or, Option, Some, None, List, [], ◌∷◌, refl, sym, ap, ◌∙◌, arith, filter}
use Rattle.relax.specs.Prelude.{Act, AreFewer, choices, Climbs, DomainView, Element, end_of, Instance, least, lost_choices, lower, lower_option, lowest, no_row, restored, stays}
use Rattle.relax.proofs.Public.{start_in}
use Rattle.domains.specs.declared.parts.Row.{Row}
use Rattle.cluster.specs.declared.choices.Choice.{Choice}
use Rattle.cluster.specs.declared.choices.Place.{Place}
use Rattle.domains.specs.declared.undo.Lost.{Lost}
use Rattle.bound.specs.Losses.{least_with}
use Rattle.domains.proofs.Public.{least_of_each, lowest_before}
use Rattle.slices.proofs.Public.{ends_by_duration}

-- where no part is left out, all stay
pub all_stay : (cs : List Choice) → filter (stays None) cs ≡ cs
all_stay [] = refl
all_stay (c ∷ cs) = ap (λ l. c ∷ l) (all_stay cs)

-- the least of values that are raised to a floor
abbrev raised : ℕ → Option ℕ → Option ℕ
raised m None = None
raised m (Some n) = Some (max m n)

-- where there is a choice there is a least
not-none : (f : Choice → ℕ) (cs : List Choice) (c : Choice) → Contains cs c → lowest f cs ≡ None → ⊥
not-none f [] c there e = omega (arith, there.1)
not-none f (x ∷ xs) c there e = cc

lowest_raised : (f : Choice → ℕ) (m : ℕ) (cs : List Choice) → lowest (λ c. max m (f c)) cs ≡ raised m (lowest f cs)
lowest_raised f m [] = refl
lowest_raised f m (c ∷ cs) = rw (lowest_raised f m cs) (step (f c) (lowest f cs))
  where
    step : (n : ℕ) (o : Option ℕ) → Some (lower (max m n) (raised m o)) ≡ Some (max m (lower n o))
    step n None = refl
    step n (Some k) = ap Some (omega arith)

-- the first start of a row is a choice
pub first_there : (d : DomainView) (rows : List Row) (i : ℕ) → rows ≡ d.rows → Climbs 0 rows → i < length rows → Contains (choices d) (Act (slice_index_or rows i no_row).place (slice_index_or rows i no_row).lo)
first_there d rows i same climbs low = rw same (start_in d i no_row (rw same at climbs) (rw same at low))

-- one that ends by the floor gives it
pub lowest_at_floor : (f : Choice → ℕ) (floor : ℕ) (cs : List Choice) (c : Choice) → Contains cs c → f c ≤ floor → lowest (λ x. max floor (f x)) (filter (stays None) cs) ≡ Some floor
lowest_at_floor f floor cs c there low = rw (all_stay cs, lowest_raised f floor cs) (at (lowest f cs) refl)
  where
    least-low : least f cs ≤ floor
    least-low = omega (arith, least_of_each f cs c there, low)

    at : (o : Option ℕ) → lowest f cs ≡ o → raised floor o ≡ Some floor
    at None e = absurd (not-none f cs c there e)
    at (Some n) e = let few : n ≤ floor = rw e at least-low in ap Some (omega (arith, few))

-- a later start at a place ends no sooner
pub raised_climbs : (p : Instance) (e : Element) (floor : ℕ) (place : Place) (lo hi : ℕ) → lo ≤ hi → max floor (end_of p e (Act place lo)) ≤ max floor (end_of p e (Act place hi))
raised_climbs p e floor place lo hi l = omega (arith, ends_by_duration p e place lo, ends_by_duration p e place hi)

-- ---- the least before choices were lost

-- where a domain is told by what it has lost
pub before_loss : (f : Choice → ℕ) (lost : Lost) (d : DomainView) (least_lost : Option ℕ) → AreFewer (choices d) (choices (restored lost d)) → least_lost ≡ lowest f (lost_choices lost) → least_with f (filter (stays None) (choices d)) least_lost ≡ least f (choices (restored lost d))
before_loss f lost d least_lost fewer is = rw (all_stay (choices d), is) (ap (λ o. unwrap_or o 0) (sym (lowest_before f lost d fewer)))

-- it is known from the least of what was lost, and of what is kept where that is no less
pub record IsRisen (from to before now : ℕ) : Type 0 where
  pub up : from ≤ to
  pub both : to + before ≡ from + now

pub all_lost : (f : Choice → ℕ) (kept : List Choice) (floor : ℕ) → None ≡ lowest (λ c. max floor (f c)) kept → (least_with f kept (Some floor) ≡ floor) × (least f kept ≡ 0)
all_lost f kept floor left = by (lowest f kept) (left ∙ lowest_raised f floor kept)
  where
    by : (o : Option ℕ) → None ≡ raised floor o → (unwrap_or (lower_option o (Some floor)) 0 ≡ floor) × (unwrap_or o 0 ≡ 0)
    by None e = (refl, refl)
    by (Some n) e = cc

pub some_kept : (f : Choice → ℕ) (kept : List Choice) (floor end : ℕ) → Some end ≡ lowest (λ c. max floor (f c)) kept → IsRisen floor end (least_with f kept (Some floor)) (least f kept)
some_kept f kept floor end left = by (lowest f kept) (left ∙ lowest_raised f floor kept)
  where
    by : (o : Option ℕ) → Some end ≡ raised floor o → IsRisen floor end (unwrap_or (lower_option o (Some floor)) 0) (unwrap_or o 0)
    by None e = cc
    by (Some n) e = let is : end ≡ max floor n = cc in record { up = omega (arith, is); both = omega (arith, is) }
