-- The sum of the least ends where one element is narrowed.
use Rattle.cert_model.proofs.Prelude.{IsTrue, ◌≡◌, ℕ, ◌+◌, ◌≤◌, Bool, true, false, not, List, [], ◌∷◌, Option, Some, None, unwrap_or, refl, ap, subst, arith, Contains, filter, AreLegal, Choice, Element, end_of, in_part, Instance, is_legal, IsElement, IsInstance, keeping, least, least_cost, least_with, lower, lower_option, lowest, max_cost, same_element, Sets, stays, Part, filter_is_fewer, cost_change, cost_is_small, cost_term, kept_else, kept_here}

-- ---- a set that is narrowed

-- choices of narrower sets are legal
pub narrow_legal : (p : Instance) (s : Sets) (x : Element) (test : Choice → Bool) → AreLegal p s → AreLegal p (keeping x test s)
narrow_legal p s x test legal e i c has = at (same_element e x) refl
  where
    at : (b : Bool) → same_element e x ≡ b → IsTrue (is_legal p e c)
    at true same =
        let narrowed : keeping x test s e ≡ filter test (s e) = rw same refl in
        legal e i c (filter_is_fewer test (s e) c (subst (λ cs. Contains cs c) narrowed has))
    at false same =
        let whole : keeping x test s e ≡ s e = rw same refl in
        legal e i c (subst (λ cs. Contains cs c) whole has)

-- ---- the sum of narrower sets

-- what an element loses and what it keeps, the least of both is that of all
loss_split : (f : Choice → ℕ) (test : Choice → Bool) (cs : List Choice) → lower_option (lowest f (filter (λ c. not (test c)) cs)) (lowest f (filter test cs)) ≡ lowest f cs
loss_split f test [] = refl
loss_split f test (c ∷ cs) = at (test c) refl (loss_split f test cs)
  where
    inner : (n : ℕ) (kept lost : Option ℕ) → lower_option kept (Some (lower n lost)) ≡ Some (lower n (lower_option kept lost))
    inner n None lost = refl
    inner n (Some k) None = ap Some (omega arith)
    inner n (Some k) (Some g) = ap Some (omega arith)

    outer : (n : ℕ) (kept lost : Option ℕ) → lower_option (Some (lower n kept)) lost ≡ Some (lower n (lower_option kept lost))
    outer n None None = refl
    outer n None (Some g) = refl
    outer n (Some k) None = refl
    outer n (Some k) (Some g) = ap Some (omega arith)

    at : (b : Bool) → test c ≡ b → lower_option (lowest f (filter (λ c. not (test c)) cs)) (lowest f (filter test cs)) ≡ lowest f cs
        → lower_option (lowest f (filter (λ c. not (test c)) (c ∷ cs))) (lowest f (filter test (c ∷ cs))) ≡ Some (lower (f c) (lowest f cs))
    at true is rest = rw (is, ← rest) (inner (f c) _ _)
    at false is rest = rw (is, ← rest) (outer (f c) _ _)

module _ (p : Instance) (s : Sets) (x : Element) (test : Choice → Bool) (sum : ℕ) (there : IsElement p x) (whole : sum ≡ least_cost p s) where
  -- a number with the least end of all choices of the element, as the sum has with that of those that pass
  pub is_narrowed : (n : ℕ) → n + least (end_of p x) (s x) ≡ sum + least (end_of p x) (filter test (s x)) → n ≡ least_cost p (keeping x test s)
  is_narrowed n both =
      let change : least_cost p (keeping x test s) + least (end_of p x) (s x) ≡ least_cost p s + least (end_of p x) (keeping x test s x) = cost_change p (keeping x test s) s x there (λ e ne. kept_else x e test s ne) in
      omega (arith, whole, both, rw (kept_here x test s) at change)

  -- the sum has the least end of the element, and with that of those that pass in its place it is small
  pub has_end : least (end_of p x) (s x) ≤ sum
  has_end = omega (arith, whole, cost_term p s x there)

  pub small_with : IsInstance p → AreLegal p s → sum + least (end_of p x) (filter test (s x)) ≤ max_cost + least (end_of p x) (s x)
  small_with sound legal =
      let change : least_cost p (keeping x test s) + least (end_of p x) (s x) ≡ least_cost p s + least (end_of p x) (keeping x test s x) = cost_change p (keeping x test s) s x there (λ e ne. kept_else x e test s ne) in
      omega (arith, whole, rw (kept_here x test s) at change, cost_is_small p sound (keeping x test s) (narrow_legal p s x test legal))

-- the least end before a part was lost
pub whole_of_loss : (p : Instance) (s : Sets) (x : Element) (part : Part) (lost : Option ℕ) → lost ≡ lowest (end_of p x) (keeping x (in_part part) s x) → least_with (end_of p x) (filter (stays (Some part)) (s x)) lost ≡ least (end_of p x) (s x)
whole_of_loss p s x part lost is = rw (is, kept_here x (in_part part) s) (ap (λ o. unwrap_or o 0) (loss_split (end_of p x) (in_part part) (s x)))

-- the least end in a part, as it is seen there
pub end_inside : (p : Instance) (s : Sets) (x : Element) (part : Part) → least (end_of p x) (keeping x (in_part part) s x) ≡ least (end_of p x) (filter (in_part part) (s x))
end_inside p s x part = ap (least (end_of p x)) (kept_here x (in_part part) s)
