-- The one choice of a domain, and the plan of a region that is fixed.
use Rattle.relax.proofs.Prelude.{slice_index_or, ◌≡◌, inl, inr, ℕ, suc, ◌+◌, ◌-◌, ◌<◌, ◌≤◌, Bool, true, false, cond, List, [], ◌∷◌, ◌++◌, length, get_or, take, drop, refl, ap, arith, Contains, flat_map, cases_lt, le-ltb, lt-ltb, get_or-drop, get_or-take, get_or_past, length-drop, length-take-le, Act, AreLegal, Choice, choices, choices_of, Climbs, DomainView, element_at, element_count, Instance, inventory_of, IsOnly, IsPlanOf, IsSized, machine_count, Node as TheNode, node_count, parted, RegionView, Row, row_choices, sets, starts_from, Vm, Idle, IsListed-element_at, legal_is_plan}

-- ---- one choice

no-item : {A : Type 0} (xs : List A) → length xs ≡ 0 → xs ≡ []
no-item [] e = refl
no-item (x ∷ xs) e = absurd (omega arith)

-- of rows that are one choice it is the first start of the first
first_start : (idle : Bool) (rows : List Row) (d : Row) → Climbs 0 rows → 1 ≤ length rows → length (cond idle (Idle ∷ []) [] ++ flat_map row_choices rows) ≡ 1 → cond idle (Idle ∷ []) [] ++ flat_map row_choices rows ≡ Act (get_or rows 0 d).place (get_or rows 0 d).lo ∷ []
first_start idle [] d climbs l e = absurd (omega arith)
first_start idle (r ∷ rs) d climbs l e = by idle e
  where
    more : r.hi + 1 - r.lo ≡ suc (r.hi - r.lo)
    more = omega (arith, climbs.1)

    rest : List Choice
    rest = starts_from r.place (r.lo + 1) (r.hi - r.lo) ++ flat_map row_choices rs

    by : (b : Bool) → length (cond b (Idle ∷ []) [] ++ (row_choices r ++ flat_map row_choices rs)) ≡ 1 → cond b (Idle ∷ []) [] ++ (row_choices r ++ flat_map row_choices rs) ≡ Act r.place r.lo ∷ []
    by true e = let two : suc (suc (length rest)) ≡ 1 = (rw more at e) in absurd (omega arith)
    by false e = let one : suc (length rest) ≡ 1 = (rw more at e) in rw more (ap (λ cs. Act r.place r.lo ∷ cs) (no-item rest (omega arith)))

pub one_start : (g : DomainView) (d : Row) → Climbs 0 g.rows → 1 ≤ length g.rows → length (choices g) ≡ 1 → choices g ≡ Act (get_or g.rows 0 d).place (get_or g.rows 0 d).lo ∷ []
one_start g d climbs l e = first_start g.idle g.rows d climbs l e

-- ---- the plan

past_start : (m n : ℕ) → (m + n) - m ≡ n
past_start m n = omega arith

-- each element of the problem has just the choice of the list at its place
module _ (p : Instance) (g : RegionView) (sized : IsSized p g) (legal : AreLegal p (sets g)) (xs : List Choice) (count : length xs ≡ element_count (inventory_of p)) (each : (k : ℕ) → k < element_count (inventory_of p) → sets g (element_at (inventory_of p) k) ≡ slice_index_or xs k Idle ∷ []) where
  there : (k : ℕ) → k < element_count (inventory_of p) → Contains (sets g (element_at (inventory_of p) k)) (slice_index_or xs k Idle)
  there k l = rw (each k l) (0, omega arith, refl)

  -- the list is a plan
  pub is_plan : IsPlanOf p (parted p xs)
  is_plan =
      legal_is_plan p xs count (λ k l. legal (element_at (inventory_of p) k) (IsListed-element_at (inventory_of p) k l) (slice_index_or xs k Idle) (there k l))

  -- the only one of the region
  pub is_only : IsOnly (sets g) (choices_of (parted p xs))
  is_only (Vm v) =
      elim (cases_lt v.0 (machine_count p)) [
        | inl low ↦
            rw (get_or-take (machine_count p) xs v.0 Idle low)
            (rw (lt-ltb v.0 (machine_count p) low) at (each v.0 (omega (arith, low))))
        | inr past ↦
            rw (get_or_past g.machines v.0 _ (omega (arith, sized.machines)), get_or_past (take (machine_count p) xs) v.0 Idle (omega (arith, length-take-le (machine_count p) xs (omega (arith, count))))) refl
      ]
  is_only (TheNode n) =
      elim (cases_lt n.0 (node_count p)) [
        | inl low ↦
            let here = rw (le-ltb (machine_count p + n.0) (machine_count p) (omega arith), past_start (machine_count p) n.0) at (each (machine_count p + n.0) (omega (arith, low))) in
            rw (get_or-drop (machine_count p) xs n.0 Idle) here
        | inr past ↦
            rw (get_or_past g.nodes n.0 _ (omega (arith, sized.nodes)), get_or_past (drop (machine_count p) xs) n.0 Idle (omega (arith, length-drop (machine_count p) xs, count))) refl
      ]
