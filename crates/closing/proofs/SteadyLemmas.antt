-- Room that stays, and loads that fit it at every instant.
use Rattle.closing.proofs.Prelude.{IsTrue, ◌≡◌, inl, inr, ℕ, suc, ◌+◌, Bool, cond, [], ◌∷◌, refl, sym, ap, subst, ◌∙◌, arith, Contains, cases_eq, Amount, capacity_of, Choice, Element, HasSteadyRoom, Instance, IsElement, IsEnd, IsFreeOf, IsOverload, node, Node as TheNode, node_count, Nodes, Sets, setting, StaysUsable, StaysWithin, sure, usable_at, Vm, vm, Idle, contains_one, end_is_choice, node_change, setting_agrees, setting_sets, setting_total}
use Rattle.closing.proofs.SettingLemmas.{other_node}

-- ---- nodes that can only stay

module _ (p : Instance) (s : Sets) where
  -- its only choice is its only end
  only-end : (e : Element) (c : Choice) → s e ≡ Idle ∷ [] → IsEnd (s e) c → c ≡ Idle
  only-end e c stays end = contains_one Idle c (subst (λ l. Contains l c) stays (end_is_choice (s e) c end))

  pub stays_usable_by : (n : ℕ) → s (node n) ≡ Idle ∷ [] → IsTrue (usable_at p n 0 Idle) → StaysUsable p s n
  unfolding usable_at sure
  stays_usable_by n stays on = record { base = base; ends = at }
    where
      base : (t : ℕ) → IsTrue ((sure p s t).usable n)
      base t = rw (stays, on) refl

      with-choice : (t : ℕ) (c : Choice) → c ≡ Idle → IsTrue (usable_at p n t c)
      with-choice t c is = subst (λ x. IsTrue (usable_at p n t x)) (sym is) on

      at : (t : ℕ) (e : Element) (c : Choice) → IsElement p e → IsEnd (s e) c → IsTrue ((sure p (setting e c s) t).usable n)
      at t (Vm v) c there end = ((setting_sets p s (vm v.0) c t).other_nodes n (λ e. cc)).usable ∙ base t
      at t (TheNode m) c there end =
          elim (cases_eq n m.0) [
            | inl same ↦
                ((setting_sets p s (node m.0) c t).set_node n (ap (λ (k : ℕ). node k) (sym same))).usable ∙
                with-choice t c (only-end (node m.0) c (subst (λ (k : ℕ). s (node k) ≡ Idle ∷ []) same stays) end)
            | inr ne ↦ ((setting_sets p s (node m.0) c t).other_nodes n (other_node n m.0 ne)).usable ∙ base t
          ]

  -- ---- sums over nodes

  module _ (r : ℕ) (set : Nodes) where
    pub no_room_yet : HasSteadyRoom p s r set 0 0
    no_room_yet = record { base = λ t. omega arith; ends = λ t e c there end. omega arith }

    -- a node more, whatever it has
    pub room_kept : (i total : ℕ) → HasSteadyRoom p s r set i total → HasSteadyRoom p s r set (i + 1) total
    room_kept i total before =
        let one-more : i + 1 ≡ suc i = omega arith in
        rw one-more (record { base = λ t. omega (arith, before.base t); ends = λ t e c there end. omega (arith, before.ends t e c there end) })

    inside : (a b : Bool) (k : ℕ) → IsTrue a → IsTrue b → cond a (cond b k 0) 0 ≡ k
    inside a b k ha hb = rw (ha, hb) refl

    pub room_more : (i total : ℕ) → HasSteadyRoom p s r set i total → IsTrue (set i) → StaysUsable p s i → HasSteadyRoom p s r set (i + 1) (total + capacity_of p i r)
    room_more i total before here stays =
        let one-more : i + 1 ≡ suc i = omega arith in
        rw one-more (record {
          base = λ t. omega (arith, before.base t, inside (set i) ((sure p s t).usable i) (capacity_of p i r) here (stays.base t));
          ends = λ t e c there end. omega (arith, before.ends t e c there end, inside (set i) ((sure p (setting e c s) t).usable i) (capacity_of p i r) here (stays.ends t e c there end));
        })

    -- what stays within room that stays
    pub steady_fits : (amount : ℕ) → HasSteadyRoom p s r set (node_count p) amount → StaysWithin p s (Amount r) set amount → (t : ℕ) → IsFreeOf (λ b. IsOverload p b r set) p s t
    steady_fits amount has stays t = record { base = λ over. omega (arith, over, has.base t, stays.base t); ends = at }
      where
        at : (e : Element) (c : Choice) → IsElement p e → IsEnd (s e) c → ¬ IsOverload p (sure p (setting e c s) t) r set
        at (Vm v) c there end over = omega (arith, setting_total p s v.0 c t (Amount r) set there, stays.each v.0 t c there end, has.ends t (vm v.0) c there end, over)
        at (TheNode n) c there end over =
            omega (arith, (node_change p (setting (node n.0) c s) s n.0 t there (setting_agrees s (node n.0) c)).of_total (Amount r) set, stays.base t, has.ends t (node n.0) c there end, over)
