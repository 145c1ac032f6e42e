-- That all machines fit on all nodes together, told in the order of what they use.
use Rattle.load_bounds.proofs.Prelude.{◌≡◌, inl, inr, ℕ, ◌+◌, ◌<◌, ◌≤◌, List, length, get_or, refl, sym, ap, subst, ◌∙◌, arith, slice_index_or, Contains, cases_eq, cases_lt, get_or_default, all_nodes, Amount, base, demand_of, Instance, IsMost, machine_count, may_wait, most_anywhere, no_standing, Sets, vm}
use Rattle.load_bounds.specs.Prelude.{MachinesFit, Period, Standing}
use Rattle.profiles.specs.Fixed.{IsOrder, most_use}
use Rattle.profiles.specs.declared.fixed.MostUse.{MostUse}
use Rattle.load_bounds.proofs.TotalLemmas.{ever_most}

module _ (p : Instance) (s : Sets) (ks : List Standing) (r : ℕ) (x : Period) (spare : ℕ) where
  -- machine v uses no more than what is spare and what it surely uses
  abbrev pub Fits : ℕ → Type 0
  Fits v = IsMost p v (s (vm v)) r (all_nodes p) x (spare + most_anywhere p v r x (may_wait p s x v) (slice_index_or ks v no_standing))

  pub fits_more : (xs : List MostUse) (k : ℕ) (e : MostUse) (d : Standing) → IsOrder p r xs → length ks ≡ machine_count p → k < length xs → ((j : ℕ) (u : MostUse) → k + 1 ≤ j → j < length xs → Fits (get_or xs j u).machine.0) →
      IsMost p (get_or xs k e).machine.0 (s (vm (get_or xs k e).machine.0)) r (all_nodes p) x (spare + most_anywhere p (get_or xs k e).machine.0 r x (may_wait p s x (get_or xs k e).machine.0) (slice_index_or ks (get_or xs k e).machine.0 d)) →
      (j : ℕ) (u : MostUse) → k ≤ j → j < length xs → Fits (get_or xs j u).machine.0
  fits_more xs k e d order count low before here j u from to =
      elim (cases_eq j k) [
        | inl same ↦ subst (λ (w : MostUse). Fits w.machine.0) (get_or_default xs k e u low ∙ ap (λ i. get_or xs i u) (sym same)) there
        | inr other ↦ before j u (omega (arith, from, other)) to
      ]
    where
      there : Fits (get_or xs k e).machine.0
      there = subst (λ (w : Standing). IsMost p (get_or xs k e).machine.0 (s (vm (get_or xs k e).machine.0)) r (all_nodes p) x (spare + most_anywhere p (get_or xs k e).machine.0 r x (may_wait p s x (get_or xs k e).machine.0) w)) (get_or_default ks (get_or xs k e).machine.0 d no_standing (omega (arith, count, order.uses.machines k e low))) here

  pub fits_order : (xs : List MostUse) (first : ℕ) → IsOrder p r xs → ((k : ℕ) (d : MostUse) → k < first → (get_or xs k d).most ≤ spare) → ((k : ℕ) (d : MostUse) → first ≤ k → k < length xs → Fits (get_or xs k d).machine.0) →
      MachinesFit p s r (all_nodes p) x (λ v. most_anywhere p v r x (may_wait p s x v) (slice_index_or ks v no_standing)) spare
  fits_order xs first order early late = record { each = λ v low. at v (order.uses.each v low) }
    where
      at : (v : ℕ) → Contains xs (most_use p r v) → Fits v
      at v there = elim (cases_lt there.0 first) [
        | inl before ↦
            let fits : (most_use p r v).most ≤ spare = subst (λ (u : MostUse). u.most ≤ spare) there.2 (early there.0 (most_use p r v) before) in
            ever_most p v (s (vm v)) r (all_nodes p) x (base p v (Amount r)) (demand_of p v r) (spare + most_anywhere p v r x (may_wait p s x v) (slice_index_or ks v no_standing)) refl refl (omega (arith, fits))
        | inr past ↦ subst (λ (u : MostUse). Fits u.machine.0) there.2 (late there.0 (most_use p r v) past there.1)
      ]
