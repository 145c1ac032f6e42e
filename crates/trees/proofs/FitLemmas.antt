-- How many decisions a lean tree has.
use Rattle.base.proofs.Public.{◌≡◌, ◌≢◌, ℕ, ◌+◌, ◌≤◌, List, [], ◌∷◌, ◌++◌, refl, sym, ap, ◌∙◌, arith, Option, Bool, true, false, cond, ◌||◌, filter, false≢true}
use Rattle.trees.specs.Prelude.{AtEach, Choice, Cut, cut_then, Decide, decide_both, decisions, DecisionsFit, Element, fail_leaf, has_left, in_part, inside, Instance, IsElement, IsOneOf, IsUndecided, keeping, LeanAt, LeanTreesFit, left_leaf, machine_count, Node, node_count, out_of_part, outside, plan_leaf, same_element, Sets, size, Step, StepHolds, steps_of, Tree, Vm}
use Rattle.domains.proofs.Public.{open_has_two, same_is, size_falls, size_is_positive, split_adds_up}
use Rattle.trees.proofs.CountLemmas.{decisions_append, has_left_append}

-- ---- numbers alone

fit_leaf : (plans : ℕ) → DecisionsFit 0 false plans
fit_leaf plans = record { fit = omega arith; more = λ h. absurd (false≢true h) }

fit_cut : (count : ℕ) (some_left : Bool) (fewer plans : ℕ) → DecisionsFit count some_left fewer → fewer ≤ plans → DecisionsFit count some_left plans
fit_cut count some_left fewer plans f h = record { fit = omega (arith, f.fit); more = λ some. omega (arith, f.more some) }

fit_decide : (a b : ℕ) (s t : Bool) (k m : ℕ) → DecisionsFit a s k → DecisionsFit b t m → 1 ≤ k → 1 ≤ m → DecisionsFit (1 + (a + b)) (s || t) (k + m)
fit_decide a b true t k m f h i j = record { fit = omega (arith, f.fit, h.fit); more = λ some. omega (arith, f.more refl, h.fit) }
fit_decide a b false t k m f h i j = record { fit = omega (arith, f.fit, h.fit); more = λ some. omega (arith, f.fit, h.more some) }

-- ---- sizes

one_of : (p : Instance) (e : Element) → IsElement p e → IsOneOf (machine_count p) (node_count p) e
one_of p (Vm v) h = h
one_of p (Node n) h = h

element_of : (p : Instance) (e : Element) → IsOneOf (machine_count p) (node_count p) e → IsElement p e
element_of p (Vm v) h = h
element_of p (Node n) h = h

module _ (p : Instance) where
  abbrev plans_in : Sets → ℕ
  plans_in s = size (machine_count p) (node_count p) s

  -- sets of which each keeps a choice hold a plan
  kept_some : (s : Sets) (x : Element) (test : Choice → Bool) → ((e : Element) → IsElement p e → s e ≢ []) → filter test (s x) ≢ [] → 1 ≤ plans_in (keeping x test s)
  kept_some s x test some kept = size_is_positive (machine_count p) (node_count p) (keeping x test s) (λ e h. at e h (same_element e x) refl)
    where
      at : (e : Element) → IsOneOf (machine_count p) (node_count p) e → (b : Bool) → same_element e x ≡ b → cond b (filter test (s e)) (s e) ≢ []
      at e h true same = λ none. kept (ap (λ y. filter test (s y)) (sym (same_is e x same)) ∙ none)
      at e h false other = some e (element_of p e h)

  -- undecided sets hold two plans
  two_plans : (e : List Step) (s : Sets) → IsUndecided p e s → 2 ≤ plans_in s
  two_plans e s d =
      open_has_two (machine_count p) (node_count p) s (λ x h. d.closed.some x (element_of p x h)) (λ fixed. d.not_one (λ x h. fixed x (one_of p x h)))

  fits : (bound : Option ℕ) (t : Tree) (e : List Step) (s : Sets) → AtEach (λ e'. StepHolds p bound) e s t → AtEach (LeanAt p) e s t → DecisionsFit (decisions (steps_of t)) (has_left (steps_of t)) (plans_in s)
  fits bound (fail_leaf reason) e s a l = fit_leaf (plans_in s)
  fits bound (plan_leaf cost) e s a l = fit_leaf (plans_in s)
  fits bound left_leaf e s a l = let two = two_plans e s l in record { fit = omega arith; more = λ some. two }
  fits bound (cut_then x part reason t) e s a l =
      fit_cut (decisions (steps_of t)) (has_left (steps_of t)) (plans_in (outside x part s)) (plans_in s)
      (fits bound t (e ++ Cut x part reason ∷ []) (outside x part s) a.1 l.1) (size_falls (machine_count p) (node_count p) s x (out_of_part part))
  fits bound (decide_both x part t u) e s a l =
      let both =
      fit_decide (decisions (steps_of t)) (decisions (steps_of u)) (has_left (steps_of t)) (has_left (steps_of u)) (plans_in (inside x part s)) (plans_in (outside x part s))
      (fits bound t (e ++ Decide x part ∷ []) (inside x part s) a.1 l.1)
      (fits bound u ((e ++ Decide x part ∷ []) ++ steps_of t) (outside x part s) a.2 l.2)
      (kept_some s x (in_part part) l.0.closed.some a.0.some_inside) (kept_some s x (out_of_part part) l.0.closed.some a.0.some_outside) in
      rw (decisions_append (steps_of t) (steps_of u), has_left_append (steps_of t) (steps_of u), ← split_adds_up (machine_count p) (node_count p) s x part (one_of p x a.0.element)) both

pub lean_trees_fit : LeanTreesFit
lean_trees_fit p bound s t a l = fits p bound t [] s a l
