-- Sets that are one plan are closed exactly where the plan is valid.
use mathlib.Core.Path.{fun_ext}
use Rattle.base.proofs.Public.{◌≡◌, ◌⊎◌, inl, inr, ℕ, Bool, true, false, ◌&&◌, ◌==◌, cond, List, [], ◌∷◌, refl, sym, ap, subst, ◌∙◌, arith, Contains, cases_lt, or-false}
use Rattle.reasons.specs.Prelude.{Act, action_at, Choice, Choices, Element, held_at, Instance, IsClosed, IsElement, IsEnd, IsFree, IsIn, IsInstance, IsOnly, IsUnrefuted, IsValid, Keeps, machine_count, node, node_count, OnlyClosed, powered_at, present_at, ReasonKind, same_element, Sets, setting, snapshot_at, snapshot_of, sure, usable_at, vm}
use Rattle.cluster.specs.declared.choices.Choice.TheVariants.{Idle}
use Rattle.slices.proofs.Public.{is_pointwise}
use Rattle.domains.proofs.Public.{contains_one, same_is}
use Rattle.reasons.proofs.FreeLemmas.{free-keeps, free_stays, keeps-none, valid-free}
use Rattle.reasons.proofs.PartLemmas.{parts_are_in}
use Rattle.reasons.proofs.SureLemmas.{sure-part}

pub and-true : (x : Bool) → (x && true) ≡ x
and-true true = refl
and-true false = refl

-- sets that hold a valid plan are unrefuted
pub valid-unrefuted : (p : Instance) → IsInstance p → (s : Sets) (plan : Choices) → IsIn s plan → IsValid p plan → IsUnrefuted p s
unfolding IsUnrefuted
valid-unrefuted p sound s plan i valid kind t l =
    free_stays p (sure p s t) (snapshot_of p plan t) (parts_are_in p _ _ (sure-part p s plan t i)) (t == p.horizon) kind (valid-free p sound plan valid t l kind)

-- what is sure of one plan is the plan's snapshot
sure-only : (p : Instance) (s : Sets) (plan : Choices) (t : ℕ) → IsOnly s plan → sure p s t ≡ snapshot_of p plan t
unfolding sure
sure-only p s plan t only =
    let is : s ≡ (λ e. plan e ∷ []) = fun_ext only in
    ap (λ s. sure p s t) is
    ∙ (λ i. record {
      held = λ v w set. held_at p v w set t (plan (vm v));
      present = λ v set. and-true (present_at p v set t (plan (vm v))) i;
      usable = λ n. or-false (usable_at p n t (plan (node n))) i;
      powered = λ n. and-true (powered_at p n t (plan (node n))) i;
      action = λ v far. and-true (action_at p v far t (plan (vm v))) i;
    })

-- setting an element of a plan to its choice changes nothing
setting-only : (s : Sets) (plan : Choices) (e : Element) → IsOnly s plan → setting e (plan e) s ≡ s
setting-only s plan e only = fun_ext (λ x. at x (same_element x e) refl)
  where
    at : (x : Element) (b : Bool) → same_element x e ≡ b → cond b (plan e ∷ []) (s x) ≡ s x
    at x true h = ap (λ y. plan y ∷ []) (sym (same_is x e h)) ∙ sym (only x)
    at x false h = refl

pub end-contained : (cs : List Choice) (c : Choice) → IsEnd cs c → Contains cs c
end-contained cs Idle h = h
end-contained cs (Act place s) h = h.0

end-only : (s : Sets) (plan : Choices) (e : Element) → IsOnly s plan → IsEnd (s e) (plan e)
end-only s plan e only = rw (only e) (at (plan e))
  where
    at : (c : Choice) → IsEnd (c ∷ []) c
    at Idle = (0, omega arith, refl)
    at (Act place u) = ((0, omega arith, refl), inl (λ x h. let is = contains_one (Act place u) (Act place x) h in let e : x ≡ u = cc in omega arith))

valid-closed : (p : Instance) → IsInstance p → (s : Sets) (plan : Choices) → IsOnly s plan → IsValid p plan → IsClosed p s
valid-closed p sound s plan only valid = record {
  some = λ e h none. let f : (plan e ∷ []) ≡ [] = sym (only e) ∙ none in cc;
  ends = λ e c h end.
      let is : c ≡ plan e = contains_one (plan e) c (rw (only e) at (end-contained (s e) c end)) in
      let same : setting e c s ≡ s = ap (λ c. setting e c s) is ∙ setting-only s plan e only in
      rw same (valid-unrefuted p sound s plan (λ x. rw (only x) (0, omega arith, refl)) valid);
}

-- an element, or none at all
some_element : (p : Instance) → ((e : Element) × IsElement p e) ⊎ ((machine_count p ≡ 0) × (node_count p ≡ 0))
some_element p =
    elim (cases_lt 0 (machine_count p)) [
      | inl m ↦ inl (vm 0, m)
      | inr m ↦ elim (cases_lt 0 (node_count p)) [ inl n ↦ inl (node 0, n) | inr n ↦ inr (omega arith, omega arith) ]
    ]

closed-valid : (p : Instance) → IsInstance p → (s : Sets) (plan : Choices) → IsOnly s plan → IsClosed p s → IsValid p plan
unfolding IsUnrefuted IsValid
closed-valid p sound s plan only closed t h r i =
    elim (some_element p) [
      | inl x ↦
          let unrefuted : IsUnrefuted p s = rw (setting-only s plan x.0 only) at (closed.ends x.0 (plan x.0) x.1 (end-only s plan x.0 only)) in
          let free : (kind : ReasonKind) → IsFree p (snapshot_of p plan t) (t == p.horizon) kind = λ kind. subst (λ b. IsFree p b (t == p.horizon) kind) (sure-only p s plan t only) (unrefuted kind t h) in
          subst (λ b. Keeps p b (t == p.horizon) r) (sym (is_pointwise p plan t)) (free-keeps p sound plan t (t == p.horizon) free r i)
      | inr none ↦ keeps-none p (snapshot_at p plan t) none.0 none.1 sound (t == p.horizon) r i
    ]

pub only_closed : OnlyClosed
only_closed p sound s plan only = (closed-valid p sound s plan only, valid-closed p sound s plan only)
