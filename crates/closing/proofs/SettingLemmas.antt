-- What setting one element leaves as it was, for conditions on amounts, powered nodes, places and pairs.
use Rattle.closing.proofs.Prelude.{IsTrue, ◌≡◌, ◌≢◌, ◌⊎◌, inl, inr, ℕ, ◌+◌, ◌<◌, ◌≤◌, Bool, true, false, cond, refl, sym, ap, ◌∙◌, arith, cases_eq, false≢true, Choice, Element, FailAtEnds, has_node_of, Instance, IsAbove, IsElement, IsEnd, IsEndThat, IsFreeOf, IsMetWith, IsMisplaced, IsOn, IsPlacedBadly, IsPoweredUnder, IsSpared, machine_count, node, Node as TheNode, node_count, NodeId, Nodes, one, Places, powered_at, powered_nodes, present_at, Sets, setting, ShareNode, Stands, sure, total, Vm, vm, VmId, Weight, machine_change, node_change, setting_agrees, setting_powered, setting_sets, setting_total}

pub other_vm : (v w : ℕ) → v ≢ w → vm v ≢ vm w
other_vm v w ne e = ne (let same : record { 0 = v } ≡ (let x : VmId = record { 0 = w } in x) = cc in ap (λ (x : VmId). x.0) same)

pub other_node : (m n : ℕ) → m ≢ n → node m ≢ node n
other_node m n ne e = ne (let same : record { 0 = m } ≡ (let x : NodeId = record { 0 = n } in x) = cc in ap (λ (x : NodeId). x.0) same)

-- ---- sums with a fixed bound

module _ (p : Instance) (s : Sets) (w : Weight) (set : Nodes) (t amount spare : ℕ) (fits : spare + total p (sure p s t) w set ≡ amount) where
  pub total_free : ((v : ℕ) → v < machine_count p → IsSpared p s w set t spare v) → IsFreeOf (λ b. amount < total p b w set) p s t
  total_free machines = record { base = λ over. omega (arith, over, fits); ends = at }
    where
      at : (e : Element) (c : Choice) → IsElement p e → IsEnd (s e) c → ¬ (amount < total p (sure p (setting e c s) t) w set)
      at (Vm v) c h end over = (machines v.0 h).ends c end (omega (arith, setting_total p s v.0 c t w set h, over, fits))
      at (TheNode n) c h end over = omega (arith, (node_change p (setting (node n.0) c s) s n.0 t h (setting_agrees s (node n.0) c)).of_total w set, over, fits)

  pub total_met : (v : ℕ) → v < machine_count p → (c : Choice) → IsAbove p s w set t spare v c → IsMetWith (λ b. amount < total p b w set) p s t (vm v) c
  total_met v h c above = record {
    element = h;
    is_end = above.is_end;
    is_met = omega (arith, setting_total p s v c t w set h, above.passes, fits);
  }

-- ---- powered nodes

module _ (p : Instance) (s : Sets) (set : Nodes) (t amount : ℕ) where
  abbrev part : ℕ → Bool → ℕ
  part n b = cond (set n) (cond b 1 0) 0

  part-le : (n : ℕ) (b : Bool) → part n b ≤ 1
  part-le n b = at (set n) b
    where
      at : (a b : Bool) → cond a (cond b 1 0) 0 ≤ 1
      at true true = omega arith
      at true false = omega arith
      at false b = omega arith

  same-powered : (v : ℕ) (c : Choice) → v < machine_count p → powered_nodes p (sure p (setting (vm v) c s) t) set ≡ powered_nodes p (sure p s t) set
  same-powered v c h = (machine_change p (setting (vm v) c s) s v t h (setting_agrees s (vm v) c)).of_powered set

  -- with fewer than may be, one more is no harm
  pub few_free : powered_nodes p (sure p s t) set < amount → IsFreeOf (λ b. amount < powered_nodes p b set) p s t
  few_free few = record { base = λ over. omega (arith, over, few); ends = at }
    where
      at : (e : Element) (c : Choice) → IsElement p e → IsEnd (s e) c → ¬ (amount < powered_nodes p (sure p (setting e c s) t) set)
      at (Vm v) c h end over = omega (arith, same-powered v.0 c h, over, few)
      at (TheNode n) c h end over = omega (arith, setting_powered p s n.0 c t set h, part-le n.0 (powered_at p n.0 t c), over, few)

  -- with as many, one that is not surely powered and is with an end
  pub full_free : powered_nodes p (sure p s t) set ≡ amount → ((n : ℕ) → n < node_count p → IsTrue (set n) → (sure p s t).powered n ≡ false → FailAtEnds (IsPoweredUnder p n t) (s (node n))) → IsFreeOf (λ b. amount < powered_nodes p b set) p s t
  full_free full nodes = record { base = λ over. omega (arith, over, full); ends = at }
    where
      less : (n : ℕ) (a b d : Bool) → (IsTrue a → b ≡ false → IsTrue d → ⊥) → cond a (cond d 1 0) 0 ≤ cond a (cond b 1 0) 0
      less n true true true f = omega arith
      less n true true false f = omega arith
      less n true false true f = absurd (f refl refl refl)
      less n true false false f = omega arith
      less n false b d f = omega arith

      at : (e : Element) (c : Choice) → IsElement p e → IsEnd (s e) c → ¬ (amount < powered_nodes p (sure p (setting e c s) t) set)
      at (Vm v) c h end over = omega (arith, same-powered v.0 c h, over, full)
      at (TheNode n) c h end over =
          let few = less n.0 (set n.0) ((sure p s t).powered n.0) (powered_at p n.0 t c) (λ a b d. (nodes n.0 h a b).ends c end d) in
          omega (arith, setting_powered p s n.0 c t set h, few, over, full)

  pub full_met : powered_nodes p (sure p s t) set ≡ amount → (n : ℕ) → n < node_count p → (c : Choice) → IsTrue (set n) → (sure p s t).powered n ≡ false → IsEndThat (IsPoweredUnder p n t) (s (node n)) c → IsMetWith (λ b. amount < powered_nodes p b set) p s t (node n) c
  full_met full n h c inside off end = record {
    element = h;
    is_end = end.is_end;
    is_met =
        let before : part n ((sure p s t).powered n) ≡ 0 = rw (inside, off) refl in
        let after : part n (powered_at p n t c) ≡ 1 = rw (inside, end.passes) refl in
        omega (arith, setting_powered p s n c t set h, before, after, full);
  }

-- ---- places

module _ (p : Instance) (s : Sets) (t : ℕ) where
  -- where another element is set, a machine is where it was
  same-present : (e : Element) (c : Choice) (v n : ℕ) → vm v ≢ e → (sure p (setting e c s) t).present v (one n) ≡ (sure p s t).present v (one n)
  same-present e c v n ne = ((setting_sets p s e c t).other_machines v ne).present (one n)

  -- where it is set itself, it is where its choice has it
  own-present : (v n : ℕ) (c : Choice) → (sure p (setting (vm v) c s) t).present v (one n) ≡ present_at p v (one n) t c
  own-present v n c = ((setting_sets p s (vm v) c t).set_machine v refl).present (one n)

  vm_or : (e : Element) (v : ℕ) → (e ≡ vm v) ⊎ (vm v ≢ e)
  vm_or (Vm w) v = elim (cases_eq v w.0) [ inl same ↦ inl (ap (λ (k : ℕ). vm k) (sym same)) | inr ne ↦ inr (other_vm v w.0 ne) ]
  vm_or (TheNode n) v = inr (λ e. cc)

  pub placed_free : (places : Places) (v : ℕ) → ¬ IsPlacedBadly p places v (sure p s t) → FailAtEnds (IsMisplaced p places v t) (s (vm v)) → IsFreeOf (IsPlacedBadly p places v) p s t
  placed_free places v base fail = record { base = base; ends = at }
    where
      at : (e : Element) (c : Choice) → IsElement p e → IsEnd (s e) c → ¬ IsPlacedBadly p places v (sure p (setting e c s) t)
      at e c h end x =
          elim (vm_or e v) [
            | inl same ↦ fail.ends c (rw same at end) (x.0, x.1, x.2, sym (own-present v x.0 c) ∙ (rw same at x.3))
            | inr ne ↦ base (x.0, x.1, x.2, sym (same-present e c v x.0 ne) ∙ x.3)
          ]

  pub placed_met : (places : Places) (v : ℕ) → v < machine_count p → (c : Choice) → IsEndThat (IsMisplaced p places v t) (s (vm v)) c → IsMetWith (IsPlacedBadly p places v) p s t (vm v) c
  placed_met places v h c end = record {
    element = h;
    is_end = end.is_end;
    is_met = let x = end.passes in (x.0, x.1, x.2, own-present v x.0 c ∙ x.3);
  }

  -- ---- pairs

  pub shared_free : (v w : ℕ) (a b : Nodes) → ((n : ℕ) → a n ≡ (sure p s t).present v (one n)) → ((n : ℕ) → b n ≡ (sure p s t).present w (one n)) → ((n : ℕ) → n < node_count p → IsTrue (a n) → b n ≡ false) → FailAtEnds (IsOn p w a t) (s (vm w)) → FailAtEnds (IsOn p v b t) (s (vm v)) → IsFreeOf (ShareNode p v w) p s t
  shared_free v w a b stands_v stands_w apart fail_w fail_v = record { base = base; ends = at }
    where
      base : ¬ ShareNode p v w (sure p s t)
      base x = false≢true (sym (apart x.1 x.2 (stands_v x.1 ∙ x.3)) ∙ (stands_w x.1 ∙ x.4))

      at : (e : Element) (c : Choice) → IsElement p e → IsEnd (s e) c → ¬ ShareNode p v w (sure p (setting e c s) t)
      at e c h end x =
          elim (vm_or e v) [
            | inl is_v ↦
                let end_v : IsEnd (s (vm v)) c = rw is_v at end in
                let first : IsTrue ((sure p (setting (vm v) c s) t).present v (one x.1)) = rw is_v at x.3 in
                let second : IsTrue ((sure p (setting (vm v) c s) t).present w (one x.1)) = rw is_v at x.4 in
                fail_v.ends c end_v (x.1, x.2, stands_w x.1 ∙ (sym (same-present (vm v) c w x.1 (other_vm w v (λ same. x.0 (sym same)))) ∙ second), sym (own-present v x.1 c) ∙ first)
            | inr not_v ↦
                elim (vm_or e w) [
                  | inl is_w ↦
                      let end_w : IsEnd (s (vm w)) c = rw is_w at end in
                      let first : IsTrue ((sure p (setting (vm w) c s) t).present v (one x.1)) = rw is_w at x.3 in
                      let second : IsTrue ((sure p (setting (vm w) c s) t).present w (one x.1)) = rw is_w at x.4 in
                      fail_w.ends c end_w (x.1, x.2, stands_v x.1 ∙ (sym (same-present (vm w) c v x.1 (other_vm v w x.0)) ∙ first), sym (own-present w x.1 c) ∙ second)
                  | inr not_w ↦ base (x.0, x.1, x.2, sym (same-present e c v x.1 not_v) ∙ x.3, sym (same-present e c w x.1 not_w) ∙ x.4)
                ]
          ]

  -- one stands where the other is with an end
  pub second_met : (v w : ℕ) (a : Stands) → v ≢ w → w < machine_count p → ((n : ℕ) → has_node_of a n ≡ (sure p s t).present v (one n)) → (c : Choice) → IsEndThat (IsOn p w (has_node_of a) t) (s (vm w)) c → IsMetWith (ShareNode p v w) p s t (vm w) c
  second_met v w a ne h stands c end = record {
    element = h;
    is_end = end.is_end;
    is_met =
        let x = end.passes in
        (ne, x.0, x.1, same-present (vm w) c v x.0 (other_vm v w ne) ∙ (sym (stands x.0) ∙ x.2), own-present w x.0 c ∙ x.3);
  }

  pub first_met : (v w : ℕ) (b : Stands) → v ≢ w → v < machine_count p → ((n : ℕ) → has_node_of b n ≡ (sure p s t).present w (one n)) → (c : Choice) → IsEndThat (IsOn p v (has_node_of b) t) (s (vm v)) c → IsMetWith (ShareNode p v w) p s t (vm v) c
  first_met v w b ne h stands c end = record {
    element = h;
    is_end = end.is_end;
    is_met =
        let x = end.passes in
        (ne, x.0, x.1, own-present v x.0 c ∙ x.3, same-present (vm v) c w x.0 (other_vm w v (λ same. ne (sym same))) ∙ (sym (stands x.0) ∙ x.2));
  }
