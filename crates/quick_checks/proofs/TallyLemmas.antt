-- What is known to be held together stays so as a region narrows, and tells what is held where one machine is seen narrowed.
use Rattle.quick_checks.proofs.Prelude.{◌≡◌, ◌≢◌, ℕ, ◌+◌, ◌*◌, ◌<◌, ◌≤◌, Bool, true, false, filter, [], refl, ap, sym, ◌∙◌, arith, sum_to-change, sum_to-le, sum_to-same, filter_is_fewer, least_grows, same_is, Choice, Element, has_node, Instance, IsWeighed, max_held, NodeSet, Some, IsTally, keeping, least, machine_count, Nodes, same_element, Sets, Tally, total, vm, Weight, Weighed}
use Rattle.quick_checks.proofs.WeighedLemmas.{weighed_total}
use Rattle.quick_checks.specs.Prelude.{held_at, sure}
use Rattle.slices.specs.Forms.{Bounded, form_of}
use Rattle.catalogue.specs.declared.constraint.Constraint.{Constraint}
use Rattle.std.specs.Prelude.{slice_get}

module _ (p : Instance) (s r : Sets) (t : ℕ) (w : Weight) (set : Nodes) where
  same_held : (v : ℕ) → r (vm v) ≡ s (vm v) → (sure p r t).held v w set ≡ (sure p s t).held v w set
  unfolding sure
  same_held v same = ap (least (held_at p v w set t)) same

  pub total_same : ((v : ℕ) → v < machine_count p → r (vm v) ≡ s (vm v)) → total p (sure p r t) w set ≡ total p (sure p s t) w set
  total_same same = sum_to-same (machine_count p) (λ v. (sure p r t).held v w set) (λ v. (sure p s t).held v w set) (λ v l. same_held v (same v l))

  -- what all hold changes by what the one holds that has other choices
  pub total_changed : (v : ℕ) → v < machine_count p → ((k : ℕ) → k ≢ v → r (vm k) ≡ s (vm k)) →
      total p (sure p r t) w set + (sure p s t).held v w set ≡ total p (sure p s t) w set + (sure p r t).held v w set
  total_changed v there same = sum_to-change (machine_count p) (λ k. (sure p r t).held k w set) (λ k. (sure p s t).held k w set) v there (λ k ne. same_held k (same k ne))

-- ---- one element is narrowed

module _ (p : Instance) (s narrow : Sets) (x : Element) (keep : Choice → Bool) (same : (e : Element) → narrow e ≡ keeping x keep s e) (some : narrow x ≢ []) where
  least-stays : (f : Choice → ℕ) (v : ℕ) (b : Bool) → same_element (vm v) x ≡ b → least f (s (vm v)) ≤ least f (narrow (vm v))
  least-stays f v true h =
      let here : vm v ≡ x = same_is (vm v) x h in
      let now : narrow (vm v) ≡ filter keep (s (vm v)) = same (vm v) ∙ (rw h refl) in
      rw now (least_grows f (filter keep (s (vm v))) (s (vm v)) (filter_is_fewer keep (s (vm v))) (λ none. some (ap narrow (sym here) ∙ now ∙ none)))
  least-stays f v false h =
      let now : narrow (vm v) ≡ s (vm v) = same (vm v) ∙ (rw h refl) in
      rw now (omega arith)

  held-stays : (t : ℕ) (w : Weight) (set : Nodes) (v : ℕ) → (sure p s t).held v w set ≤ (sure p narrow t).held v w set
  unfolding sure
  held-stays t w set v = least-stays (held_at p v w set t) v (same_element (vm v) x) refl

  pub tally_stays : (y : Tally) → IsTally p s y → IsTally p narrow y
  tally_stays y is = record {
    held = λ w set amount bounds. omega (arith, is.held w set amount bounds, total-stays w (has_node set));
    small = is.small;
  }
    where
      total-stays : (w : Weight) (set : Nodes) → total p (sure p s y.at) w set ≤ total p (sure p narrow y.at) w set
      total-stays w set = sum_to-le (machine_count p) (λ v. (sure p s y.at).held v w set) (λ v. (sure p narrow y.at).held v w set) (λ v l. held-stays y.at w set v)

-- ---- what is added up is so of the constraint that says of which weight and nodes

pub tally_made : (p : Instance) (s : Sets) (c t : ℕ) (k : Constraint) (w : Weight) (set : NodeSet) (amount : ℕ) (x : Weighed) →
    slice_get p.constraints c ≡ Some k → form_of k ≡ Bounded w set amount → IsWeighed p (sure p s t) w (has_node set) x → IsTally p s (record { constraint = c; at = t; total = x.total })
tally_made p s c t k w set amount x there form known = record {
  held = λ v ns most bounds.
      let same : Bounded v ns most ≡ Bounded w set amount = sym (rw there at bounds) ∙ form in
      let weight : v ≡ w = cc in
      let nodes : ns ≡ set = cc in
      rw (weight, nodes) (weighed_total p (sure p s t) w (has_node set) x known);
  small = omega (arith, known.small, few x.next (machine_count p) known.within);
}
  where
    few : (a b : ℕ) → a ≤ b → a * max_held ≤ b * max_held
    few a b l = grind (arith, l)
