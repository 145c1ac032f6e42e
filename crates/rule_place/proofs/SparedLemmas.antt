-- A constraint on places stays clean where a machine loses choices, as long as one is left.
use Rattle.rule_place.proofs.Prelude.{IsTrue, slice_get, ◌≡◌, ◌≢◌, inl, inr, ℕ, ◌<◌, ◌≤◌, ◌||◌, ◌==◌, true, List, [], Some, refl, sym, ◌∙◌, arith, cases_eq, ne_eqb, Contains, Decides-eqb, end_is_choice, own_present, same_present, some_end, surely_each, vm_or}
use Rattle.rule_place.specs.Prelude.{Allowed, AreFewer, Choice, Constraint, constraint_watch, Element, ForbidsPlace, form_of, Instance, is_continuous, IsClean, IsElement, IsEnd, IsHarmless, IsInstance, machine_count, node_count, of_kind, one, Place as PlaceKind, Places, present_at, putting, reason_kind, rule_watch, Sets, setting, sure, vm, VmId, Vm}
use Rattle.rule_place.proofs.PresentLemmas.{end_there}

module _ (p : Instance) (sound : IsInstance p) (k : Constraint) (v : ℕ) (old : List Choice) (s : Sets) (is : reason_kind k ≡ Some PlaceKind) (machine : v < machine_count p) (fewer : AreFewer (s (vm v)) old) (some : s (vm v) ≢ []) (clean : IsClean (rule_watch p k) p (putting (vm v) old s)) where
  abbrev before : Sets
  before = putting (vm v) old s

  own-before : before (vm v) ≡ old
  own-before = let here : (v == v) ≡ true = (Decides-eqb v v).1 refl in rw here refl

  sure-before : (w n t : ℕ) → w ≢ v → (sure p before t).present w (one n) ≡ (sure p s t).present w (one n)
  unfolding sure
  sure-before w n t ne = rw (ne_eqb w v ne) refl

  module _ (w n t : ℕ) (l : t ≤ p.horizon) (due : IsTrue (is_continuous k || (t == p.horizon))) (low : w < machine_count p) (inside : n < node_count p) (not_there : ForbidsPlace p k w n) where
    -- the machine was there under an end of its choices before, where it is under one that is left
    off : (c : Choice) → w ≡ v → Contains (s (vm v)) c → IsTrue (present_at p v (one n) t c) → ⊥
    off c same there on =
        let d = end_there p v n t (omega (arith, l, sound.horizon)) old c (fewer c there) on in
        (clean t l).ends (vm v) d.0 machine (rw own-before d.1) (due, inr (inl (v, n, machine, inside, record { forbidden = rw same at not_there; present = own_present p before v n t d.0 ∙ d.2 })))

    -- no other machine than before is where it may not be
    base-off : IsTrue ((sure p s t).present w (one n)) → ⊥
    unfolding sure
    base-off present =
        elim (cases_eq w v) [
          | inl same ↦
              let c = some_end (s (vm v)) some in
              let there = end_is_choice (s (vm v)) c.0 c.1 in
              off c.0 same there (surely_each (present_at p v (one n) t) (s (vm v)) c.0 there (rw same at present))
          | inr ne ↦ (clean t l).base (due, inr (inl (w, n, low, inside, record { forbidden = not_there; present = sure-before w n t ne ∙ present })))
        ]

    own-end : (c : Choice) → IsElement p (vm w) → IsEnd (s (vm w)) c → IsTrue (present_at p w (one n) t c) → ⊥
    own-end c element end on =
        elim (cases_eq w v) [
          | inl same ↦ off c same (end_is_choice (s (vm v)) c (rw same at end)) (rw same at on)
          | inr ne ↦ (clean t l).ends (vm w) c element (rw (ne_eqb w v ne) end) (due, inr (inl (w, n, low, inside, record { forbidden = not_there; present = own_present p before w n t c ∙ on })))
        ]

    with-end : (e : Element) (c : Choice) → IsElement p e → IsEnd (s e) c → IsTrue ((sure p (setting e c s) t).present w (one n)) → ⊥
    with-end e c element end present =
        elim (vm_or e w) [
          | inl mine ↦ own-end c (rw mine at element) (rw mine at end) (sym (own_present p s w n t c) ∙ (rw mine at present))
          | inr other ↦ base-off (sym (same_present p s e c w n t other) ∙ present)
        ]

  stays : IsClean (rule_watch p k) p s
  stays t l = record {
    base = λ x. let h = of_kind p (sure p s t) PlaceKind k is x.1 in base-off h.0 h.1 t l x.0 h.2 h.3 h.4.forbidden h.4.present;
    ends = λ e c element end x. let h = of_kind p (sure p (setting e c s) t) PlaceKind k is x.1 in with-end h.0 h.1 t l x.0 h.2 h.3 h.4.forbidden e c element end h.4.present;
  }

pub place_spared : (p : Instance) (sound : IsInstance p) (c : ℕ) (k : Constraint) (vs : List VmId) (places : Places) (v : VmId) (s : Sets) → v.0 < machine_count p → slice_get p.constraints c ≡ Some k → form_of k ≡ Allowed vs places → s (Vm v) ≢ [] → IsHarmless (constraint_watch p c) p s (Vm v)
place_spared p sound c k vs places v s machine at is some old fewer = inr (λ clean. rw at (stays p sound k v.0 old s (rw is refl) machine fewer some (rw at at clean)))
