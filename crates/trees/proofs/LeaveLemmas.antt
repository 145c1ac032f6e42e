-- What a tree that proves sets leaves of their valid plans.
use mathlib.Core.Path.{fun_ext}
use Rattle.base.proofs.Public.{◌≡◌, ◌⊎◌, inl, inr, ℕ, ◌≤◌, List, [], ◌∷◌, ◌++◌, refl, sym, ap, subst, ◌∙◌, Option, Bool, true, false, ◌||◌, Contains, IsSomeAnd, false≢true}
use Rattle.trees.specs.Prelude.{AtEach, Choices, cost_of, Cut, cut_then, Decide, decide_both, fail_leaf, has_left, inside, Instance, IsIn, IsInSome, IsInstance, IsOnly, IsPlanLeaf, IsValid, left_leaf, left_sets, outside, plan_leaf, ProvedExcludes, ProvedLeaves, Sets, Step, StepHolds, steps_of, Tree}
use Rattle.domains.proofs.Public.{contains_one, plan_splits}
use Rattle.reasons.proofs.Public.{refuted_excludes}
use Rattle.trees.proofs.CountLemmas.{has_left_append}

-- ---- at leaves

-- a plan in sets that are one plan is that plan
pub only_plan : (s : Sets) (one plan : Choices) → IsOnly s one → IsIn s plan → plan ≡ one
only_plan s one plan only i = fun_ext (λ e. contains_one (one e) (plan e) (subst (λ cs. Contains cs (plan e)) (only e) (i e)))

pub at_plan : (p : Instance) (bound : Option ℕ) (s : Sets) (cost : ℕ) → IsPlanLeaf p bound s cost → (plan : Choices) → IsIn s plan → IsSomeAnd bound (λ known. known ≤ cost_of p plan)
at_plan p bound s cost leaf plan i =
    let same : cost ≡ cost_of p plan = sym leaf.one.costs ∙ ap (cost_of p) (sym (only_plan s leaf.one.plan plan leaf.one.only i)) in
    subst (λ n. IsSomeAnd bound (λ known. known ≤ n)) same leaf.handed_in

-- ---- over the whole tree

in_front : (plan : Choices) (a b : List Sets) → IsInSome plan a → IsInSome plan (a ++ b)
in_front plan [] b h = absurd h
in_front plan (s ∷ rest) b (inl h) = inl h
in_front plan (s ∷ rest) b (inr h) = inr (in_front plan rest b h)

in_back : (plan : Choices) (a b : List Sets) → IsInSome plan b → IsInSome plan (a ++ b)
in_back plan [] b h = h
in_back plan (s ∷ rest) b h = inr (in_back plan rest b h)

module _ (p : Instance) (sound : IsInstance p) (bound : Option ℕ) where
  -- the plan costs no less than the one that was handed in, or is in one of the sets
  abbrev IsOut : Choices → List Sets → Type 0
  IsOut plan sets = IsSomeAnd bound (λ known. known ≤ cost_of p plan) ⊎ IsInSome plan sets

  out_either : (plan : Choices) (a b : List Sets) → IsOut plan a ⊎ IsOut plan b → IsOut plan (a ++ b)
  out_either plan a b (inl (inl h)) = inl h
  out_either plan a b (inl (inr h)) = inr (in_front plan a b h)
  out_either plan a b (inr (inl h)) = inl h
  out_either plan a b (inr (inr h)) = inr (in_back plan a b h)

  leaves : (t : Tree) (e : List Step) (s : Sets) → AtEach (λ e'. StepHolds p bound) e s t → (plan : Choices) → IsIn s plan → IsValid p plan → IsOut plan (left_sets s t)
  leaves (fail_leaf reason) e s a plan i valid = inl (refuted_excludes p sound bound s reason a plan i valid)
  leaves (plan_leaf cost) e s a plan i valid = inl (at_plan p bound s cost a plan i)
  leaves left_leaf e s a plan i valid = inr (inl i)
  leaves (cut_then x part reason t) e s a plan i valid =
      elim (plan_splits s plan x part i) [
        | inl k ↦ inl (refuted_excludes p sound bound (inside x part s) reason a.0.refuted plan k valid)
        | inr k ↦ leaves t (e ++ Cut x part reason ∷ []) (outside x part s) a.1 plan k valid
      ]
  leaves (decide_both x part t u) e s a plan i valid =
      out_either plan (left_sets (inside x part s) t) (left_sets (outside x part s) u) (
      elim (plan_splits s plan x part i) [
        | inl k ↦ inl (leaves t (e ++ Decide x part ∷ []) (inside x part s) a.1 plan k valid)
        | inr k ↦ inr (leaves u ((e ++ Decide x part ∷ []) ++ steps_of t) (outside x part s) a.2 plan k valid)
      ]
      )

pub proved_leaves : ProvedLeaves
proved_leaves p sound bound s t a plan i valid = leaves p sound bound t [] s a plan i valid

-- ---- where nothing is left

neither : (a b : Bool) → (a || b) ≡ false → (a ≡ false) × (b ≡ false)
neither true b h = absurd (false≢true (sym h))
neither false b h = (refl, h)

pub none_left : (t : Tree) (s : Sets) → has_left (steps_of t) ≡ false → left_sets s t ≡ []
none_left (fail_leaf reason) s none = refl
none_left (plan_leaf cost) s none = refl
none_left left_leaf s none = absurd (false≢true (sym none))
none_left (cut_then x part reason t) s none = none_left t (outside x part s) none
none_left (decide_both x part t u) s none =
    let both = neither (has_left (steps_of t)) (has_left (steps_of u)) (sym (has_left_append (steps_of t) (steps_of u)) ∙ none) in
    rw (none_left t (inside x part s) both.0) (none_left u (outside x part s) both.1)

pub proved_excludes : ProvedExcludes
proved_excludes p sound bound s t a none plan i valid =
    elim (proved_leaves p sound bound s t a plan i valid) [
      | inl h ↦ h
      | inr h ↦ absurd (subst (IsInSome plan) (none_left t s none) h)
    ]
