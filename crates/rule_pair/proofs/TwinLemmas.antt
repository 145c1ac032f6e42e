-- A constraint that keeps machines apart stays clean where a machine can only stay, beside another one that stands for it.
use Rattle.rule_pair.proofs.Prelude.{◌≡◌, ◌≢◌, inl, inr, ℕ, ◌<◌, ◌≤◌, zero, suc, IsTrue, List, [], ◌∷◌, slice_get, Some, refl, sym, ◌∙◌, arith, cases_eq, Contains, ne_eqb, other-vm, end_is_choice, and-true, own_present, same_present, vm_or}
use Rattle.rule_pair.specs.Prelude.{Apart, Between, Choice, Constraint, constraint_watch, Element, ForbidsPair, form_of, FromOthers, HasPair, Idle, Instance, IsClean, IsEnd, IsInPart, is_member, IsTwin, never, of_kind, one, Pair, present_at, putting, rule_watch, Separation, Sets, setting, Snapshot, StandsFor, sure, vm, Vm, VmId}
use Rattle.rule_constraint.specs.Watches.{IsHarmless}
use Rattle.rule_pair.proofs.UnmovedLemmas.{one_law, other_before}

-- ---- a machine that stands for another one

-- of members of one part alone each stands for each other one
pub in_one_part : (parts : List (List VmId)) (i v u : ℕ) → ((j : ℕ) → IsInPart parts j v → j ≡ i) → IsInPart parts i u → ((j : ℕ) → IsInPart parts j u → j ≡ i) → StandsFor (Between parts) v u
in_one_part parts i v u alone there also = record {
  first = λ w x.
      let at = alone x.0 x.3 in
      ((i, x.1, (λ e. x.2 (at ∙ e)), there, x.4), (λ e. x.2 (at ∙ sym (also x.1 (rw e x.4)))));
  second = λ w x.
      let at = alone x.1 x.4 in
      ((x.0, i, (λ e. x.2 (e ∙ sym at)), x.3, there), (λ e. x.2 (also x.0 (rw (sym e) x.3) ∙ sym at)));
}

-- and so do two members, and two machines that are none
pub alike : (vs : List VmId) (v u : ℕ) → is_member vs u ≡ is_member vs v → StandsFor (FromOthers vs) v u
alike vs v u same = record {
  first = λ w x. ((same ∙ x.0, x.1), (λ e. x.1 (rw (sym e) (same ∙ x.0))));
  second = λ w x. ((x.0, (λ h. x.1 (sym same ∙ h))), (λ e. x.1 (sym same ∙ (rw e at x.0))));
}

-- ---- a constraint

only-choice : (c : Choice) → Contains (Idle ∷ []) c → c ≡ Idle
only-choice c (zero, low, is) = sym is
only-choice c (suc k, low, is) = absurd (omega (arith, low))

module _ (p : Instance) (k : Constraint) (separation : Separation) (v u : ℕ) (old : List Choice) (s : Sets) (short : p.horizon < never) (form : form_of k ≡ Apart separation) (twin : IsTwin p s v u) (stands : StandsFor separation v u) (clean : IsClean (rule_watch p k) p (putting (vm v) old s)) where
  abbrev before : Sets
  before = putting (vm v) old s

  first-apart : (w : ℕ) → ForbidsPair k v w → ForbidsPair k u w × (u ≢ w)
  first-apart w h = rw form (stands.first w (rw form at h))

  second-apart : (w : ℕ) → ForbidsPair k w v → ForbidsPair k w u × (w ≢ u)
  second-apart w h = rw form (stands.second w (rw form at h))

  -- where u is wherever v is, and all others are where they are, what breaks the constraint by v breaks it by u
  turned : (a b : Snapshot) → ((w n : ℕ) → w ≢ v → IsTrue (a.present w (one n)) → IsTrue (b.present w (one n))) → ((n : ℕ) → IsTrue (a.present v (one n)) → IsTrue (b.present u (one n))) → HasPair p a k → HasPair p b k
  turned a b others own x = elim (cases_eq x.0 v) [
    | inl at ↦
        let apart = first-apart x.1 (rw at at x.6.forbidden) in
        (u, x.1, x.2, twin.machine, x.4, x.5, record { forbidden = apart.0; differ = apart.1; first = own x.2 (rw at at x.6.first); second = others x.1 x.2 (λ e. x.6.differ (at ∙ sym e)) x.6.second })
    | inr off ↦
        elim (cases_eq x.1 v) [
          | inl at ↦
              let apart = second-apart x.0 (rw at at x.6.forbidden) in
              (x.0, u, x.2, x.3, twin.machine, x.5, record { forbidden = apart.0; differ = apart.1; first = others x.0 x.2 off x.6.first; second = own x.2 (rw at at x.6.second) })
          | inr too ↦ (x.0, x.1, x.2, x.3, x.4, x.5, record { forbidden = x.6.forbidden; differ = x.6.differ; first = others x.0 x.2 off x.6.first; second = others x.1 x.2 too x.6.second })
        ]
  ]

  module _ (t : ℕ) (l : t ≤ p.horizon) where
    staying : (n : ℕ) → present_at p u (one n) t Idle ≡ present_at p v (one n) t Idle
    staying n = one_law p u n t Idle short l ∙ (rw twin.same refl) ∙ sym (one_law p v n t Idle short l)

    where-v : (n : ℕ) → IsTrue ((sure p s t).present v (one n)) → IsTrue (present_at p v (one n) t Idle)
    unfolding sure
    where-v n on = sym (and-true (present_at p v (one n) t Idle)) ∙ (rw twin.first at on)

    beside : (n : ℕ) → IsTrue (present_at p v (one n) t Idle) → IsTrue ((sure p before t).present u (one n))
    unfolding sure
    beside n on = rw (ne_eqb u v twin.other, twin.second) (and-true (present_at p u (one n) t Idle) ∙ (staying n ∙ on))

    as-before : (w n : ℕ) → w ≢ v → IsTrue ((sure p s t).present w (one n)) → IsTrue ((sure p before t).present w (one n))
    unfolding sure
    as-before w n ne on = rw (ne_eqb w v ne) on

    base : HasPair p (sure p s t) k → HasPair p (sure p before t) k
    base = turned (sure p s t) (sure p before t) as-before (λ n on. beside n (where-v n on))

    -- the machine itself is set to what it has
    with-own : (c : Choice) → c ≡ Idle → HasPair p (sure p (setting (vm v) c s) t) k → HasPair p (sure p before t) k
    with-own c is =
        turned (sure p (setting (vm v) c s) t) (sure p before t) (λ w n ne on. as-before w n ne (sym (same_present p s (vm v) c w n t (other-vm w v ne)) ∙ on))
        (λ n on. beside n (rw is at (sym (own_present p s v n t c) ∙ on)))

    -- another element is set
    with-other : (e : Element) (c : Choice) → vm v ≢ e → IsEnd (s e) c → HasPair p (sure p (setting e c s) t) k → HasPair p (sure p (setting e c before) t) k
    with-other e c ne end = turned (sure p (setting e c s) t) (sure p (setting e c before) t) others own
      where
        others : (w n : ℕ) → w ≢ v → IsTrue ((sure p (setting e c s) t).present w (one n)) → IsTrue ((sure p (setting e c before) t).present w (one n))
        others w n off on = elim (vm_or e w) [
          | inl same ↦ rw same (own_present p before w n t c ∙ (sym (own_present p s w n t c) ∙ (rw same at on)))
          | inr past ↦ same_present p before e c w n t past ∙ as-before w n off (sym (same_present p s e c w n t past) ∙ on)
        ]

        own : (n : ℕ) → IsTrue ((sure p (setting e c s) t).present v (one n)) → IsTrue ((sure p (setting e c before) t).present u (one n))
        own n on =
            let there = where-v n (sym (same_present p s e c v n t ne) ∙ on) in
            elim (vm_or e u) [
              | inl same ↦
                  let is : c ≡ Idle = only-choice c (rw twin.second at (end_is_choice (s (vm u)) c (rw same at end))) in
                  rw (same, is) (own_present p before u n t Idle ∙ (staying n ∙ there))
              | inr past ↦ same_present p before e c u n t past ∙ beside n there
            ]

  stays : IsClean (rule_watch p k) p s
  stays t l = record {
    base = λ x. (clean t l).base (x.0, inl (base t l (of_kind p (sure p s t) Pair k (rw form refl) x.1)));
    ends = λ e c element end x.
        let pair = of_kind p (sure p (setting e c s) t) Pair k (rw form refl) x.1 in
        elim (vm_or e v) [
          | inl same ↦
              let is : c ≡ Idle = only-choice c (rw twin.first at (end_is_choice (s (vm v)) c (rw same at end))) in
              (clean t l).base (x.0, inl (with-own t l c is (rw same at pair)))
          | inr ne ↦ (clean t l).ends e c element (rw (other_before v old s e ne) end) (x.0, inl (with-other t l e c ne end pair))
        ];
  }

pub twin_harmless : (p : Instance) (s : Sets) (c : ℕ) (k : Constraint) (separation : Separation) (v : VmId) (u : ℕ) → p.horizon < never → slice_get p.constraints c ≡ Some k → form_of k ≡ Apart separation → IsTwin p s v.0 u → StandsFor separation v.0 u → IsHarmless (constraint_watch p c) p s (Vm v)
twin_harmless p s c k separation v u short at form twin stands old fewer = inr (λ clean. rw at (stays p k separation v.0 u old s short form twin stands (rw at at clean)))
