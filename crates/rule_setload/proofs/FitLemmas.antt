-- Where each machine fits in what is spare, what all hold stays within the amount.
use Rattle.rule_setload.proofs.Prelude.{◌≡◌, inl, inr, ℕ, suc, zero, ◌+◌, ◌<◌, ◌≤◌, ◌==◌, ◌||◌, Bool, true, false, nat_le, List, [], ◌∷◌, length, slice_index_or, refl, subst, sym, ◌∙◌, arith, IsTrue, Contains, cases_eq, nat_tests, end_is_choice, ends_of_rows, Place}
use Rattle.rule_setload.specs.Prelude.{Act, AreWithin, Choice, choices, Climbs, DomainView, goes_in, has_started, HoldsLeast, Idle, if_so, Instance, IsEnd, IsFit, IsInstance, IsLate, IsRowEnd, IsShare, machine_count, no_row, Nodes, Period, place_index, Row, Sets, StaysAt, StaysDuring, StaysIn, StaysWhenDue, stay_of, sum_to, sure, unit_of, vm, Weight}
use Rattle.rule_setload.proofs.AmountLemmas.{held_ever, so_most}
use Rattle.rule_setload.proofs.AsideLemmas.{goes-any}
use Rattle.rule_setload.proofs.HoldLemmas.{ever_share}

module _ (p : Instance) (s : Sets) (w : Weight) (set : Nodes) (x : Period) where
  -- ---- one machine

  -- that has one choice
  single : (cs : List Choice) → length cs ≡ 1 → (c : Choice) × (cs ≡ c ∷ [])
  single [] e = absurd (omega (arith, e))
  single (c ∷ []) e = (c, refl)
  single (c ∷ d ∷ cs) e = absurd (omega (arith, e))

  only : (c d : Choice) → Contains (c ∷ []) d → c ≡ d
  only c d h = at h.0 h.1 h.2
    where
      at : (i : ℕ) → i < 1 → slice_index_or (c ∷ []) i d ≡ d → c ≡ d
      at zero l e = e
      at (suc i) l e = absurd (omega (arith, l))

  pub one_fits : (v spare : ℕ) (d : DomainView) → s (vm v) ≡ choices d → (length (choices d) == 1) ≡ true → IsFit p s w set v x spare
  unfolding sure
  one_fits v spare d seen is = record {
    each = λ t c h end.
        let one = single (choices d) (grind (arith, nat_tests, is)) in
        let all : s (vm v) ≡ one.0 ∷ [] = seen ∙ one.1 in
        let same : one.0 ≡ c = only one.0 c (subst (λ cs. Contains cs c) all (end_is_choice (s (vm v)) c end)) in
        rw (all, same) (omega arith);
  }

  pub ever_fits : IsInstance p → x.to ≤ p.horizon → (v spare : ℕ) → stay_of p w set v + unit_of p v w ≤ spare → IsFit p s w set v x spare
  ever_fits sound within v spare l = record { each = λ t c h end. omega (arith, held_ever p sound w set v t c (omega (arith, h.1, within)), l) }

  pub limit_fits : IsInstance p → x.to ≤ p.horizon → (v spare surely limit : ℕ) → limit ≡ spare + surely → HoldsLeast p s w set v x surely → stay_of p w set v + unit_of p v w ≤ limit → IsFit p s w set v x spare
  limit_fits sound within v spare surely limit is least l = record { each = λ t c h end. omega (arith, is, least.each t h, held_ever p sound w set v t c (omega (arith, h.1, within)), l) }

  pub shares_fit : (v spare surely limit : ℕ) → limit ≡ spare + surely → HoldsLeast p s w set v x surely → ((c : Choice) → IsEnd (s (vm v)) c → IsShare p w set v c x limit) → IsFit p s w set v x spare
  shares_fit v spare surely limit is least shares = record { each = λ t c h end. omega (arith, is, least.each t h, (shares c end).each t h) }

  -- both ends of a row
  abbrev pub RowFits : ℕ → List Row → ℕ → ℕ → Type 0
  RowFits v rows limit i = IsShare p w set v (Act (slice_index_or rows i no_row).place (slice_index_or rows i no_row).lo) x limit × IsShare p w set v (Act (slice_index_or rows i no_row).place (slice_index_or rows i no_row).hi) x limit

  pub all_fit : (v limit : ℕ) (d : DomainView) (rows : List Row) → s (vm v) ≡ choices d → rows ≡ d.rows → Climbs 0 rows → (d.idle ≡ true → IsShare p w set v Idle x limit) → ((i : ℕ) → i < length rows → RowFits v rows limit i) → (c : Choice) → IsEnd (s (vm v)) c → IsShare p w set v c x limit
  all_fit v limit d rows seen same climbs idle fit c end = at c ((ends_of_rows d (rw same at climbs) c).0 (rw seen at end))
    where
      at : (c : Choice) → IsRowEnd d c → IsShare p w set v c x limit
      at Idle e = idle e
      at (Act place start) e =
          let both = fit e.0 (rw same e.1) in
          elim e.3 [ inl lo ↦ rw (← e.2, ← lo) (rw same at both.0) | inr hi ↦ rw (← e.2, ← hi) (rw same at both.1) ]

  -- a row at no node of the set fits where what the machine has does
  pub row_out : IsInstance p → x.to ≤ p.horizon → (v stays limit u : ℕ) (place : Place) → stays ≡ stay_of p w set v → stays ≤ limit → goes_in (Act place 0) set ≡ false → IsShare p w set v (Act place u) x limit
  row_out sound within v stays limit u place is fits out =
      ever_share p sound w set v x within (Act place u) stays 0 limit is (λ t l. let off : goes_in (Act place u) set ≡ false = goes-any place set u 0 ∙ out in rw off (omega arith)) (omega (arith, fits))

  -- ---- one machine that has nothing there at present

  pub unit_fits : IsInstance p → x.to ≤ p.horizon → (v spare most : ℕ) → stay_of p w set v ≡ 0 → unit_of p v w ≤ most → most ≤ spare → IsFit p s w set v x spare
  unit_fits sound within v spare most none brings l = ever_fits sound within v spare (omega (arith, none, brings, l))

  -- the starts of a row are in their order
  ordered : (from : ℕ) (rows : List Row) (k : ℕ) → Climbs from rows → k < length rows → (slice_index_or rows k no_row).lo ≤ (slice_index_or rows k no_row).hi
  ordered from [] k climbs low = absurd (omega (arith, low))
  ordered from (r ∷ rs) zero climbs low = climbs.1
  ordered from (r ∷ rs) (suc k) climbs low = ordered (place_index r.place + 1) rs k climbs.2 (omega (arith, low))

  module _ (sound : IsInstance p) (within : x.to ≤ p.horizon) (v spare : ℕ) (none : stay_of p w set v ≡ 0) where
    comes-not : (c : Choice) → ((t : ℕ) → t ≤ x.to → if_so (goes_in c set) (if_so (has_started t c) (unit_of p v w)) ≤ 0) → IsShare p w set v c x spare
    comes-not c come = ever_share p sound w set v x within c 0 0 spare (sym none) come (omega arith)

    not-there : (place : Place) (u t : ℕ) → goes_in (Act place 0) set ≡ false → if_so (goes_in (Act place u) set) (if_so (has_started t (Act place u)) (unit_of p v w)) ≤ 0
    not-there place u t out = let off : goes_in (Act place u) set ≡ false = goes-any place set u 0 ∙ out in rw off (omega arith)

    not-yet : (place : Place) (u t : ℕ) → t < u → if_so (goes_in (Act place u) set) (if_so (has_started t (Act place u)) (unit_of p v w)) ≤ 0
    not-yet place u t later = let off : nat_le u t ≡ false = grind (arith, nat_tests, later) in rw off (so_most p sound w set (goes_in (Act place u) set) 0)

    late-row : (row : Row) (u : ℕ) → row.lo ≤ u → IsLate set x.to row → IsShare p w set v (Act row.place u) x spare
    late-row row u l late = elim late [ inl out ↦ comes-not (Act row.place u) (λ t to. not-there row.place u t out) | inr after ↦ comes-not (Act row.place u) (λ t to. not-yet row.place u t (omega (arith, after, l, to))) ]

    pub late_fits : (d : DomainView) (rows : List Row) → s (vm v) ≡ choices d → rows ≡ d.rows → Climbs 0 rows → ((k : ℕ) → k < length rows → IsLate set x.to (slice_index_or rows k no_row)) → IsFit p s w set v x spare
    late_fits d rows seen same climbs late =
        shares_fit v spare 0 spare (omega arith) (record { each = λ t h. omega arith })
        (all_fit v spare d rows seen same climbs (λ e. comes-not Idle (λ t l. omega arith))
        (λ k low. (late-row (slice_index_or rows k no_row) (slice_index_or rows k no_row).lo (omega arith) (late k low), late-row (slice_index_or rows k no_row) (slice_index_or rows k no_row).hi (ordered 0 rows k climbs low) (late k low))))

  -- ---- all machines

  term-less : (m : ℕ) (f : ℕ → ℕ) (v : ℕ) → v < m → f v ≤ sum_to m f
  term-less zero f v l = absurd (omega (arith, l))
  term-less (suc m) f v l = elim (cases_eq v m) [ inl same ↦ rw same (omega arith) | inr other ↦ omega (arith, term-less m f v (omega (arith, l, other))) ]

  pub stays_during : (total spare amount : ℕ) → AreWithin p s w set x total → total + spare ≤ amount → ((v : ℕ) → v < machine_count p → IsFit p s w set v x spare) → StaysDuring p s w set amount x
  stays_during total spare amount all fits each t h = record {
    base = omega (arith, all.each t h, fits);
    each = λ v c low end. omega (arith, all.each t h, fits, (each v low).each t c h end);
  }

-- ---- period by period

module _ (p : Instance) (s : Sets) (w : Weight) (set : Nodes) (amount : ℕ) where
  -- what always is so is so whenever it is due
  pub due_always : (always : Bool) → StaysIn p s w set amount → StaysWhenDue p s w set amount always
  due_always always stays t l due = stays t l

  pub due_last : (always : Bool) → always ≡ false → StaysAt p s w set amount p.horizon → StaysWhenDue p s w set amount always
  due_last always off stays t l due = let last : t ≡ p.horizon = is t (rw off at due) in rw last stays
    where
      is : (t : ℕ) → IsTrue (false || (t == p.horizon)) → t ≡ p.horizon
      is t e = grind (arith, nat_tests, e)
