-- A watch stays clean under a change that does not weigh on it.
use Rattle.rule_frame.proofs.Prelude.{◌≡◌, inl, inr, ℕ, ◌≤◌, Bool, true, false, cond, List, [], ◌∷◌, refl, sym, subst, ◌∙◌, arith, eq-eqb, false_from_ne_true, false≢true, putting, same_is}
use Rattle.rule_frame.specs.Prelude.{broken_at, Choice, Element, Instance, IsClean, IsElement, IsEnd, IsLess, IsLocal, IsPartWithin, IsStill, IsUnseen, node, Node as TheNode, same_element, Scope, Sets, setting, StillClean, sure, UnseenStill, Vm, vm, Watch}

self : (x : Element) → same_element x x ≡ true
self (Vm v) = eq-eqb v.0 v.0 refl
self (TheNode n) = eq-eqb n.0 n.0 refl

differ : (e x : Element) → same_element e x ≡ false → same_element x e ≡ false
differ e x h = false_from_ne_true _ (λ t. false≢true (sym h ∙ subst (λ y. same_element e y ≡ true) (sym (same_is x e t)) (self e)))

-- ---- what is sure of sets that weigh no more is a part, as far as a scope looks

part-of : (p : Instance) (k : Scope) (s r : Sets) (t : ℕ) → ((e : Element) → IsLess p k e t (s e) (r e)) → IsPartWithin k (sure p s t) (sure p r t)
unfolding sure
part-of p k s r t less = record {
  held = λ v w set i. (less (vm v)).held w set i;
  present = λ v set i. (less (vm v)).present set i;
  usable = λ n i. (less (node n)).usable i;
  powered = λ n i. (less (node n)).powered i;
  action = λ v far i. (less (vm v)).action far i;
}

less-self : (p : Instance) (k : Scope) (e : Element) (t : ℕ) (cs : List Choice) → IsLess p k e t cs cs
less-self p k (Vm v) t cs = record { held = λ w set i. omega arith; present = λ set i h. h; action = λ far i h. h }
less-self p k (TheNode n) t cs = record { usable = λ i h. h; powered = λ i h. h }

-- sets that are the same but at x
part-at : (p : Instance) (k : Scope) (x : Element) (s r : Sets) (t : ℕ) → IsLess p k x t (s x) (r x) → ((e : Element) → same_element e x ≡ false → s e ≡ r e) → IsPartWithin k (sure p s t) (sure p r t)
part-at p k x s r t here others = part-of p k s r t (λ e. at e (same_element e x) refl)
  where
    at : (e : Element) (b : Bool) → same_element e x ≡ b → IsLess p k e t (s e) (r e)
    at e true h = subst (λ y. IsLess p k y t (s y) (r y)) (sym (same_is e x h)) here
    at e false h = subst (λ cs. IsLess p k e t (s e) cs) (others e h) (less-self p k e t (s e))

setting-at : (x : Element) (c : Choice) (s : Sets) → setting x c s x ≡ c ∷ []
setting-at x c s = rw (self x) refl

setting-past : (x e : Element) (c : Choice) (s : Sets) → same_element e x ≡ false → setting x c s e ≡ s e
setting-past x e c s h = rw h refl

putting-at : (x : Element) (cs : List Choice) (s : Sets) → putting x cs s x ≡ cs
putting-at x cs s = rw (self x) refl

putting-past : (x e : Element) (cs : List Choice) (s : Sets) → same_element e x ≡ false → putting x cs s e ≡ s e
putting-past x e cs s h = rw h refl

-- ---- the law

module _ (w : Watch) (p : Instance) (s : Sets) (x : Element) (old : List Choice) (local : IsLocal w) (element : IsElement p x) (still : IsStill p w.scope x old (s x)) (clean : IsClean w p (putting x old s)) where
  abbrev before : Sets
  before = putting x old s

  base : (t : ℕ) → t ≤ p.horizon → ¬ broken_at w p t (sure p s t)
  base t l b =
      (clean t l).base
      (local.part _ _ _
      (part-at p w.scope x s before t (subst (λ ds. IsLess p w.scope x t (s x) ds) (sym (putting-at x old s)) (still.sure t l)) (λ e h. sym (putting-past x e old s h)))
      b)

  -- an end of x itself
  own : (c : Choice) → IsEnd (s x) c → (t : ℕ) → t ≤ p.horizon → ¬ broken_at w p t (sure p (setting x c s) t)
  own c end t l b =
      elim (still.ends c end t l) [
        | inl less ↦
            (clean t l).base
            (local.part _ _ _
            (part-at p w.scope x (setting x c s) before t (to before (putting-at x old s) less)
            (λ e h. setting-past x e c s h ∙ sym (putting-past x e old s h)))
            b)
        | inr by ↦
            (clean t l).ends x by.0 element (subst (λ cs. IsEnd cs by.0) (sym (putting-at x old s)) by.1)
            (local.part _ _ _
            (part-at p w.scope x (setting x c s) (setting x by.0 before) t (to (setting x by.0 before) (setting-at x by.0 before) by.2)
            (λ e h. setting-past x e c s h ∙ sym (putting-past x e old s h) ∙ sym (setting-past x e by.0 before h)))
            b)
      ]
    where
      to : (r : Sets) {ds : List Choice} → r x ≡ ds → IsLess p w.scope x t (c ∷ []) ds → IsLess p w.scope x t (setting x c s x) (r x)
      to r e less = subst (λ cs. IsLess p w.scope x t cs (r x)) (sym (setting-at x c s)) (subst (λ ds. IsLess p w.scope x t (c ∷ []) ds) (sym e) less)

  -- an end of another element
  other : (e : Element) (c : Choice) → IsElement p e → IsEnd (s e) c → same_element e x ≡ false → (t : ℕ) → t ≤ p.horizon → ¬ broken_at w p t (sure p (setting e c s) t)
  other e c i end ne t l b =
      (clean t l).ends e c i (subst (λ cs. IsEnd cs c) (sym (putting-past x e old s ne)) end)
      (local.part _ _ _ (part-at p w.scope x (setting e c s) (setting e c before) t here (λ y h. both y h (same_element y e))) b)
    where
      here : IsLess p w.scope x t (setting e c s x) (setting e c before x)
      here =
          subst (λ cs. IsLess p w.scope x t cs (setting e c before x)) (sym (setting-past e x c s (differ e x ne)))
          (subst (λ ds. IsLess p w.scope x t (s x) ds) (sym (setting-past e x c before (differ e x ne) ∙ putting-at x old s)) (still.sure t l))

      both : (y : Element) → same_element y x ≡ false → (b : Bool) → cond b (c ∷ []) (s y) ≡ cond b (c ∷ []) (before y)
      both y h true = refl
      both y h false = sym (putting-past x y old s h)

  all-clean : IsClean w p s
  all-clean t l = record { base = base t l; ends = λ e c i end. at e c i end (same_element e x) refl }
    where
      at : (e : Element) (c : Choice) → IsElement p e → IsEnd (s e) c → (b : Bool) → same_element e x ≡ b → ¬ broken_at w p t (sure p (setting e c s) t)
      at e c i end true h =
          let same : x ≡ e = sym (same_is e x h) in
          subst (λ y. ¬ broken_at w p t (sure p (setting y c s) t)) same (own c (subst (λ y. IsEnd (s y) c) (sym same) end) t l)
      at e c i end false h = other e c i end h t l

pub still_clean : StillClean
still_clean w p s x old local element still clean = all-clean w p s x old local element still clean

-- ---- what is not looked at

unseen-less : (p : Instance) (k : Scope) (x : Element) → IsUnseen k x → (t : ℕ) (cs ds : List Choice) → IsLess p k x t cs ds
unseen-less p k (Vm v) un t cs ds = record { held = λ w set i. absurd (un.held w set i); present = λ set i. absurd (un.present set i); action = λ far i. absurd (un.action far i) }
unseen-less p k (TheNode n) un t cs ds = record { usable = λ i. absurd (un.usable i); powered = λ i. absurd (un.powered i) }

pub unseen_still : UnseenStill
unseen_still p k x old now un = record { sure = λ t l. unseen-less p k x un t now old; ends = λ c e t l. inl (unseen-less p k x un t (c ∷ []) old) }
