-- That all machines fit, told in the order of what they use.
use Rattle.rule_load.proofs.Prelude.{◌≡◌, ◌⊎◌, inl, inr, ℕ, zero, suc, [], ◌∷◌, ◌+◌, ◌<◌, ◌≤◌, List, length, get_or, sym, ap, subst, ◌∙◌, arith, slice_index_or, Contains, cases_eq, cases_lt, get_or_default, Amount, AreFirstAt, AreNearAt, Instance, IsMost, IsOrder, machine_count, MachinesFit, most_kept, most_use, MostUse, never, no_standing, one, Period, Sets, Standing, StartNoSooner, vm}
use Rattle.load_bounds.proofs.Public.{away_fits, fits_at_once}

-- what is below a bound of each number of a list is so of the one at a place
pub listed_low : (many : ℕ) (xs : List ℕ) (i e : ℕ) → ((v : ℕ) → Contains xs v → v < many) → i < length xs → get_or xs i e < many
listed_low many xs i e are low = are (get_or xs i e) (i, low, get_or_default xs i (get_or xs i e) e low)

-- a number is in a list or not
is-in : (xs : List ℕ) (v : ℕ) → Contains xs v ⊎ ¬ Contains xs v
is-in [] v = inr (λ h. omega (arith, h.1))
is-in (x ∷ xs) v =
    elim (cases_eq v x) [
      | inl same ↦ inl (0, omega arith, sym same)
      | inr other ↦ elim (is-in xs v) [
        | inl there ↦ inl (suc there.0, omega (arith, there.1), there.2)
        | inr out ↦ inr (λ h. no h other out)
      ]
    ]
  where
    no : Contains (x ∷ xs) v → ¬ (v ≡ x) → ¬ Contains xs v → ⊥
    no (zero, low, is) other out = other (sym is)
    no (suc k, low, is) other out = out (k, omega (arith, low), is)

module _ (p : Instance) (s : Sets) (ks : List Standing) (r n : ℕ) (x : Period) (spare : ℕ) where
  -- machine v uses no more than what is spare and what it surely uses
  abbrev pub Fits : ℕ → Type 0
  Fits v = IsMost p v (s (vm v)) r (one n) x (spare + most_kept p v (Amount r) n x (slice_index_or ks v no_standing))

  pub fits_order : (xs : List MostUse) (first : ℕ) → x.to < never → IsOrder p r xs → ((k : ℕ) (d : MostUse) → k < first → (get_or xs k d).most ≤ spare) → ((k : ℕ) (d : MostUse) → first ≤ k → k < length xs → Fits (get_or xs k d).machine.0) → MachinesFit p s r (one n) x (λ v. most_kept p v (Amount r) n x (slice_index_or ks v no_standing)) spare
  fits_order xs first short order early late = record { each = λ v low. at v (order.uses.each v low) }
    where
      at : (v : ℕ) → Contains xs (most_use p r v) → Fits v
      at v there = elim (cases_lt there.0 first) [
        | inl before ↦
            let fits : (most_use p r v).most ≤ spare = subst (λ (u : MostUse). u.most ≤ spare) there.2 (early there.0 (most_use p r v) before) in
            fits_at_once p v (s (vm v)) r n x (most_use p r v).most spare (most_kept p v (Amount r) n x (slice_index_or ks v no_standing)) short (omega arith) fits
        | inr past ↦ subst (λ (u : MostUse). Fits u.machine.0) there.2 (late there.0 (most_use p r v) past there.1)
      ]

  -- ---- those near the node first

  pub near_more : (xs : List ℕ) (i e : ℕ) (d : Standing) → ((v : ℕ) → Contains xs v → v < machine_count p) → length ks ≡ machine_count p → i < length xs → ((j u : ℕ) → j < i → Fits (get_or xs j u)) →
      IsMost p (get_or xs i e) (s (vm (get_or xs i e))) r (one n) x (spare + most_kept p (get_or xs i e) (Amount r) n x (slice_index_or ks (get_or xs i e) d)) → (j u : ℕ) → j < i + 1 → Fits (get_or xs j u)
  near_more xs i e d are count low before here j u to =
      elim (cases_eq j i) [
        | inl same ↦ subst (λ w. Fits w) (get_or_default xs i e u low ∙ ap (λ k. get_or xs k u) (sym same)) there
        | inr other ↦ before j u (omega (arith, to, other))
      ]
    where
      there : Fits (get_or xs i e)
      there = subst (λ (w : Standing). IsMost p (get_or xs i e) (s (vm (get_or xs i e))) r (one n) x (spare + most_kept p (get_or xs i e) (Amount r) n x w)) (get_or_default ks (get_or xs i e) d no_standing (omega (arith, count, listed_low (machine_count p) xs i e are low))) here

  pub all_near : (xs : List ℕ) (i : ℕ) → length xs ≤ i → ((j u : ℕ) → j < i → Fits (get_or xs j u)) → (v : ℕ) → Contains xs v → Fits v
  all_near xs i all each v there = subst (λ w. Fits w) there.2 (each there.0 v (omega (arith, there.1, all)))

  -- machine v does, unless it is near
  abbrev pub FitsAfar : List ℕ → ℕ → Type 0
  FitsAfar near v = ¬ Contains near v → Fits v

  pub afar_more : (near : List ℕ) (xs : List MostUse) (k : ℕ) (e : MostUse) (d : Standing) → IsOrder p r xs → length ks ≡ machine_count p → k < length xs → ((j : ℕ) (u : MostUse) → k + 1 ≤ j → j < length xs → FitsAfar near (get_or xs j u).machine.0) →
      (¬ Contains near (get_or xs k e).machine.0 → IsMost p (get_or xs k e).machine.0 (s (vm (get_or xs k e).machine.0)) r (one n) x (spare + most_kept p (get_or xs k e).machine.0 (Amount r) n x (slice_index_or ks (get_or xs k e).machine.0 d))) →
      (j : ℕ) (u : MostUse) → k ≤ j → j < length xs → FitsAfar near (get_or xs j u).machine.0
  afar_more near xs k e d order count low before here j u from to =
      elim (cases_eq j k) [
        | inl same ↦ subst (λ (w : MostUse). FitsAfar near w.machine.0) (get_or_default xs k e u low ∙ ap (λ i. get_or xs i u) (sym same)) there
        | inr other ↦ before j u (omega (arith, from, other)) to
      ]
    where
      there : FitsAfar near (get_or xs k e).machine.0
      there out = subst (λ (w : Standing). IsMost p (get_or xs k e).machine.0 (s (vm (get_or xs k e).machine.0)) r (one n) x (spare + most_kept p (get_or xs k e).machine.0 (Amount r) n x w)) (get_or_default ks (get_or xs k e).machine.0 d no_standing (omega (arith, count, order.uses.machines k e low))) (here out)

  pub fits_all : (near : List ℕ) (xs : List MostUse) (first : ℕ) → x.to < never → IsOrder p r xs → ((k : ℕ) (d : MostUse) → k < first → (get_or xs k d).most ≤ spare) → ((v : ℕ) → Contains near v → Fits v) → ((k : ℕ) (d : MostUse) → first ≤ k → k < length xs → FitsAfar near (get_or xs k d).machine.0) → MachinesFit p s r (one n) x (λ v. most_kept p v (Amount r) n x (slice_index_or ks v no_standing)) spare
  fits_all near xs first short order early close late =
      fits_order xs first short order early (λ k d from to. elim (is-in near (get_or xs k d).machine.0) [ inl there ↦ close (get_or xs k d).machine.0 there | inr out ↦ late k d from to out ])

  -- ---- where no other starts there

  pub fits_alone : (near firsts : List ℕ) (start : ℕ) → AreNearAt p s n near → AreFirstAt p s n firsts → x.to < never → StartNoSooner p near firsts start → x.to < start → ((v : ℕ) → Contains near v → Fits v) → MachinesFit p s r (one n) x (λ v. most_kept p v (Amount r) n x (slice_index_or ks v no_standing)) spare
  fits_alone near firsts start are first short none late close = record { each = λ v low. at v low (is-in near v) }
    where
      at : (v : ℕ) → v < machine_count p → Contains near v ⊎ ¬ Contains near v → Fits v
      at v low (inl there) = close v there
      at v low (inr out) = away_fits p s n v r 0 (spare + most_kept p v (Amount r) n x (slice_index_or ks v no_standing)) x near firsts are first low short (omega (arith, none v low out, late)) out
