-- When a node is needed and not usable, with one element set.
use Rattle.closing.proofs.Prelude.{IsTrue, ◌≡◌, ◌⊎◌, inl, inr, ℕ, ◌<◌, ◌||◌, Bool, true, false, nat_lt, refl, sym, ap, ◌∙◌, arith, cases_eq, false≢true, nat_tests, At, Choice, Element, FailAtEnds, goes_in, held_at, hosted_in, Image, Instance, IsElement, IsEnd, IsEndThat, IsFreeOf, IsMachineUnder, IsMetWith, IsNeeded, IsNotUsable, IsSameMachine, machine_count, node, Node as TheNode, node_count, NodeId, NoneAmong, one, PassOnlyAt, Presence, Sets, setting, Snapshot, stands_on, StandsUnder, state_of, StaysUsable, sure, Vm, vm, setting_sets, away}
use Rattle.closing.proofs.{EndLemmas.goes_elsewhere, SettingLemmas.other_node, SettingLemmas.other_vm}

either : (x y : ℕ) → IsTrue (nat_lt 0 x || nat_lt 0 y) → (0 < x) ⊎ (0 < y)
either x y h =
    elim (cases_eq x 0) [
      | inr some ↦ inl (omega (arith, some))
      | inl none ↦ elim (cases_eq y 0) [ inr some ↦ inr (omega (arith, some)) | inl nil ↦ absurd (false≢true (rw (none, nil) at h)) ]
    ]

some : (x y : ℕ) → (0 < x) ⊎ (0 < y) → IsTrue (nat_lt 0 x || nat_lt 0 y)
some x y (inl h) = grind (arith, nat_tests)
some x y (inr h) = grind (arith, nat_tests)

stands-same : (a b : Snapshot) (v n : ℕ) → IsSameMachine a b v → stands_on a v n ≡ stands_on b v n
stands-same a b v n same = rw (same.present (one n), same.held Image (one n)) refl

stands-under : (p : Instance) (a : Snapshot) (v n t : ℕ) (c : Choice) → IsMachineUnder p a v t c → IsTrue (stands_on a v n) → StandsUnder p v n t c
stands-under p a v n t c under h = either (held_at p v Presence (one n) t c) (held_at p v Image (one n) t c) (rw (under.present (one n), under.held Image (one n)) at h)

under-stands : (p : Instance) (a : Snapshot) (v n t : ℕ) (c : Choice) → IsMachineUnder p a v t c → StandsUnder p v n t c → IsTrue (stands_on a v n)
under-stands p a v n t c under h = rw (under.present (one n), under.held Image (one n)) (some (held_at p v Presence (one n) t c) (held_at p v Image (one n) t c) h)

-- a machine that is hosted elsewhere stands on the node only where it goes there
pub stands_only_at : (p : Instance) (v t : ℕ) (n : NodeId) → hosted_in (state_of p v) (one n.0) ≡ false → PassOnlyAt (At n) (StandsUnder p v n.0 t)
stands_only_at p v t n apart = record { elsewhere = λ c out h. by c (goes_elsewhere n c out) h }
  where
    by : (c : Choice) → goes_in c (one n.0) ≡ false → StandsUnder p v n.0 t c → ⊥
    by c off (inl h) = omega (arith, h, away p v Presence (one n.0) t c apart off)
    by c off (inr h) = omega (arith, h, away p v Image (one n.0) t c apart off)

-- nor is any machine, whatever its host
pub none_among : (p : Instance) (s : Sets) (n t count : ℕ) → NoneAmong p s n t false count → NoneAmong p s n t true count → (v : ℕ) → v < count → FailAtEnds (StandsUnder p v n t) (s (vm v))
none_among p s n t count away here v h = by (hosted_in (state_of p v) (one n)) refl
  where
    by : (b : Bool) → hosted_in (state_of p v) (one n) ≡ b → FailAtEnds (StandsUnder p v n t) (s (vm v))
    by false e = away.fail v h e
    by true e = here.fail v h e

module _ (p : Instance) (s : Sets) (n t : ℕ) where
  abbrev NoneStands : Type 0
  NoneStands = (v : ℕ) → v < machine_count p → stands_on (sure p s t) v n ≡ false

  not-standing : (b : Bool) → b ≡ false → IsTrue b → ⊥
  not-standing b e h = false≢true (sym e ∙ h)

  -- where no machine stands, and none does with an end
  pub nowhere_free : NoneStands → ((v : ℕ) → v < machine_count p → FailAtEnds (StandsUnder p v n t) (s (vm v))) → IsFreeOf (IsNeeded p n) p s t
  nowhere_free none fail = record { base = λ x. not-standing _ (none x.0 x.1) x.2.stands; ends = at }
    where
      at : (e : Element) (c : Choice) → IsElement p e → IsEnd (s e) c → ¬ IsNeeded p n (sure p (setting e c s) t)
      at (Vm v) c h end x =
          elim (cases_eq x.0 v.0) [
            | inl same ↦
                (fail v.0 h).ends c end
                (stands-under p (sure p (setting (vm v.0) c s) t) v.0 n t c ((setting_sets p s (vm v.0) c t).set_machine v.0 refl)
                (rw same at x.2.stands))
            | inr ne ↦
                not-standing _
                (stands-same (sure p (setting (vm v.0) c s) t) (sure p s t) x.0 n ((setting_sets p s (vm v.0) c t).other_machines x.0 (other_vm x.0 v.0 ne))
                ∙ none x.0 x.1) x.2.stands
          ]
      at (TheNode m) c h end x =
          not-standing _
          (stands-same (sure p (setting (node m.0) c s) t) (sure p s t) x.0 n ((setting_sets p s (node m.0) c t).other_machines x.0 (λ e. cc)) ∙ none x.0 x.1)
          x.2.stands

  -- where the node is surely not usable, and a machine stands there with an end
  pub stands_met : (sure p s t).usable n ≡ false → (v : ℕ) → v < machine_count p → (c : Choice) → IsEndThat (StandsUnder p v n t) (s (vm v)) c → IsMetWith (IsNeeded p n) p s t (vm v) c
  stands_met off v h c end = record {
    element = h;
    is_end = end.is_end;
    is_met = (
      v,
      h,
      record {
        stands = under-stands p (sure p (setting (vm v) c s) t) v n t c ((setting_sets p s (vm v) c t).set_machine v refl) end.passes;
        unusable = ((setting_sets p s (vm v) c t).other_nodes n (λ e. cc)).usable ∙ off;
      },
    );
  }

  -- where the node may be usable, and is with each of its ends
  pub usable_free : IsTrue ((sure p s t).usable n) → FailAtEnds (IsNotUsable p n t) (s (node n)) → IsFreeOf (IsNeeded p n) p s t
  usable_free on fail = record { base = λ x. not-standing _ x.2.unusable on; ends = at }
    where
      at : (e : Element) (c : Choice) → IsElement p e → IsEnd (s e) c → ¬ IsNeeded p n (sure p (setting e c s) t)
      at (Vm v) c h end x = not-standing _ (sym ((setting_sets p s (vm v.0) c t).other_nodes n (λ e. cc)).usable ∙ x.2.unusable) on
      at (TheNode m) c h end x =
          elim (cases_eq n m.0) [
            | inl same ↦
                (rw same at fail).ends c end
                (rw (← same) (sym ((setting_sets p s (node m.0) c t).set_node n (ap (λ (k : ℕ). node k) (sym same))).usable ∙ x.2.unusable))
            | inr ne ↦ not-standing _ (sym ((setting_sets p s (node m.0) c t).other_nodes n (other_node n m.0 ne)).usable ∙ x.2.unusable) on
          ]

  -- where it stays usable
  pub staying_free : StaysUsable p s n → IsFreeOf (IsNeeded p n) p s t
  staying_free stays = record {
    base = λ x. not-standing _ x.2.unusable (stays.base t);
    ends = λ e c there end x. not-standing _ x.2.unusable (stays.ends t e c there end);
  }

  -- where the node may be usable, and no machine stands there
  pub unneeded_free : IsTrue ((sure p s t).usable n) → NoneStands → IsFreeOf (IsNeeded p n) p s t
  unneeded_free on none = record { base = λ x. not-standing _ x.2.unusable on; ends = at }
    where
      at : (e : Element) (c : Choice) → IsElement p e → IsEnd (s e) c → ¬ IsNeeded p n (sure p (setting e c s) t)
      at (Vm v) c h end x = not-standing _ (sym ((setting_sets p s (vm v.0) c t).other_nodes n (λ e. cc)).usable ∙ x.2.unusable) on
      at (TheNode m) c h end x =
          not-standing _
          (stands-same (sure p (setting (node m.0) c s) t) (sure p s t) x.0 n ((setting_sets p s (node m.0) c t).other_machines x.0 (λ e. cc)) ∙ none x.0 x.1)
          x.2.stands

  -- where a machine stands there, and the node is not usable with an end
  pub missed_met : n < node_count p → (v : ℕ) × (v < machine_count p) × IsTrue (stands_on (sure p s t) v n) → (c : Choice) → IsEndThat (IsNotUsable p n t) (s (node n)) c → IsMetWith (IsNeeded p n) p s t (node n) c
  missed_met h x c end = record {
    element = h;
    is_end = end.is_end;
    is_met = (
      x.0,
      x.1,
      record {
        stands = stands-same (sure p (setting (node n) c s) t) (sure p s t) x.0 n ((setting_sets p s (node n) c t).other_machines x.0 (λ e. cc)) ∙ x.2;
        unusable = ((setting_sets p s (node n) c t).set_node n refl).usable ∙ end.passes;
      },
    );
  }
