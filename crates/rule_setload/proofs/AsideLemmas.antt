-- A machine that has nothing on the nodes at present, and need not go there, surely holds nothing on them.
use Rattle.rule_setload.proofs.Prelude.{◌≡◌, ℕ, ◌+◌, ◌<◌, ◌≤◌, ◌||◌, ◌==◌, Bool, true, false, false≢true, Decides-eqb, sym, ◌∙◌, List, [], ◌∷◌, length, slice_index_or, refl, arith, inl, inr, Contains, cases_eq, contains_here, ends_of_rows, first_of, least_of_each, Place}
use Rattle.rule_setload.specs.Prelude.{Act, At, Choice, choices, Climbs, DomainView, goes_in, has_machine, held_at, HoldsMost, Idle, if_so, Instance, IsAside, IsEnd, IsExtra, IsInstance, IsRowEnd, MachineSet, no_row, Nodes, Nowhere, Period, Row, Sets, stay_of, sure, unit_of, vm, Weight}
use Rattle.rule_setload.proofs.AmountLemmas.{held_most}

-- ---- told by its rows

pub goes-any : (place : Place) (set : Nodes) (a b : ℕ) → goes_in (Act place a) set ≡ goes_in (Act place b) set
goes-any Nowhere set a b = refl
goes-any (At n) set a b = refl

module _ (p : Instance) (sound : IsInstance p) (s : Sets) (w : Weight) (set : Nodes) (v : ℕ) (none : stay_of p w set v ≡ 0) where
  module _ (away : (c : Choice) → IsEnd (s (vm v)) c → goes_in c set ≡ false) where
    holds-none : (t : ℕ) (c : Choice) → t ≤ p.horizon → IsEnd (s (vm v)) c → held_at p v w set t c ≤ 0
    holds-none t c l end =
        let most : held_at p v w set t c ≤ stay_of p w set v + if_so false (unit_of p v w) = rw (away c end) at (held_most p sound w set v t c l) in
        omega (arith, most, none)

    surely-none : (t : ℕ) → t ≤ p.horizon → (sure p s t).held v w set ≤ 0
    unfolding sure
    surely-none t l = by (s (vm v)) refl
      where
        by : (cs : List Choice) → s (vm v) ≡ cs → (sure p s t).held v w set ≤ 0
        by [] nobody = rw nobody (omega arith)
        by (Idle ∷ cs) some =
            let end : IsEnd (s (vm v)) Idle = rw some (contains_here Idle cs) in
            omega (arith, holds-none t Idle l end, least_of_each (held_at p v w set t) (s (vm v)) Idle end)
        by (Act place u ∷ cs) some =
            let here : Contains (s (vm v)) (Act place u) = rw some (contains_here (Act place u) cs) in
            let first = first_of (s (vm v)) place u here in
            omega (arith, holds-none t (Act place first.0) l (first.1, inl first.2), least_of_each (held_at p v w set t) (s (vm v)) (Act place first.0) first.1)

    goes-nowhere : IsAside p s w set v
    goes-nowhere = record { stays = none; extra = record { each = λ t l. omega (arith, surely-none t l) } }

  pub is_aside : (d : DomainView) (rows : List Row) → s (vm v) ≡ choices d → rows ≡ d.rows → Climbs 0 rows → ((i : ℕ) → i < length rows → goes_in (Act (slice_index_or rows i no_row).place 0) set ≡ false) → IsAside p s w set v
  is_aside d rows seen same climbs out = goes-nowhere (λ c end. at c ((ends_of_rows d (rw same at climbs) c).0 (rw seen at end)))
    where
      at : (c : Choice) → IsRowEnd d c → goes_in c set ≡ false
      at Idle e = refl
      at (Act place start) e = rw (← e.2) (rw (goes-any (slice_index_or d.rows e.0 no_row).place set start 0) (rw same at (out e.0 (rw same e.1))))

-- ---- told by what it has and brings

pub none_aside : (p : Instance) (s : Sets) (w : Weight) (set : Nodes) (v extra : ℕ) → stay_of p w set v ≡ 0 → extra ≡ 0 → IsExtra p s w set v extra → IsAside p s w set v
none_aside p s w set v extra none nothing is = record { stays = none; extra = rw nothing at is }

-- ---- what it holds

pub aside_holds : (p : Instance) (s : Sets) (w : Weight) (set : Nodes) (v : ℕ) (x : Period) → x.to ≤ p.horizon → IsAside p s w set v → HoldsMost p s w set v x 0
aside_holds p s w set v x within aside = record { each = λ t h. omega (arith, aside.extra.each t (omega (arith, h.1, within)), aside.stays) }

-- ---- one machine more

module _ (p : Instance) (s : Sets) (w : Weight) (set : Nodes) where
  -- of the first machines those that are not in the set are aside
  abbrev pub AreAside : ℕ → MachineSet → Type 0
  AreAside count machines = (v : ℕ) → v < count → has_machine machines v ≡ false → IsAside p s w set v

  pub aside_more : (i : ℕ) (machines : MachineSet) → AreAside i machines → IsAside p s w set i → AreAside (i + 1) machines
  aside_more i machines before here v low out = elim (cases_eq v i) [ inl same ↦ rw same here | inr other ↦ before v (omega (arith, low, other)) out ]

  either : (a b : Bool) → (a || b) ≡ false → (a ≡ false) × (b ≡ false)
  either true b e = absurd (false≢true (sym e))
  either false b e = (refl, e)

  pub put_more : (i : ℕ) (machines new : MachineSet) → AreAside i machines → ((v : ℕ) → has_machine new v ≡ ((v == i) || has_machine machines v)) → AreAside (i + 1) new
  put_more i machines new before put v low out =
      let both = either (v == i) (has_machine machines v) (sym (put v) ∙ out) in
      elim (cases_eq v i) [
        | inl same ↦ let on : (v == i) ≡ true = (Decides-eqb v i).1 same in absurd (false≢true (sym both.0 ∙ on))
        | inr other ↦ before v (omega (arith, low, other)) both.1
      ]
