-- The plans of plan leaves.
use Rattle.base.proofs.Public.{◌⊎◌, inl, inr, ℕ, ◌≤◌, List, [], ◌∷◌, ◌++◌, sym, subst, Option, IsSomeAnd, Contains}
use Rattle.trees.specs.Prelude.{AtEach, Choices, cost_of, Cut, cut_then, Decide, decide_both, fail_leaf, in_part, inside, Instance, IsIn, IsOnly, IsPlanLeaf, IsPlanOfSome, IsValid, left_leaf, out_of_part, outside, plan_leaf, plan_sets, PlansFoundHold, Sets, start_sets, Step, StepHolds, steps_of, Tree}
use Rattle.domains.proofs.Public.{contains_here, plan_stays}
use Rattle.trees.proofs.LeaveLemmas.{at_plan, only_plan}
use Rattle.reasons.proofs.Public.{start_is_plan}

pub only_in : (s : Sets) (plan : Choices) → IsOnly s plan → IsIn s plan
only_in s plan only e = subst (λ cs. Contains cs (plan e)) (sym (only e)) (contains_here (plan e) [])

-- ---- lists of leaves

pub plan_in_front : (plan : Choices) (leaves more : List Sets) → IsPlanOfSome plan leaves → IsPlanOfSome plan (leaves ++ more)
plan_in_front plan [] more h = absurd h
plan_in_front plan (s ∷ rest) more (inl h) = inl h
plan_in_front plan (s ∷ rest) more (inr h) = inr (plan_in_front plan rest more h)

pub plan_at_last : (plan : Choices) (leaves : List Sets) (s : Sets) → IsOnly s plan → IsPlanOfSome plan (leaves ++ s ∷ [])
plan_at_last plan [] s h = inl h
plan_at_last plan (other ∷ rest) s h = inr (plan_at_last plan rest s h)

either_of : (plan : Choices) (a b : List Sets) → IsPlanOfSome plan (a ++ b) → IsPlanOfSome plan a ⊎ IsPlanOfSome plan b
either_of plan [] b h = inr h
either_of plan (s ∷ rest) b (inl h) = inl (inl h)
either_of plan (s ∷ rest) b (inr h) = elim (either_of plan rest b h) [ inl k ↦ inl (inr k) | inr k ↦ inr k ]

-- ---- over the whole tree

module _ (p : Instance) (bound : Option ℕ) (plan : Choices) where
  -- the plan is in the sets, is valid, and costs no less than the one that was handed in
  record IsFoundIn (s : Sets) : Type 0 where
    there : IsIn s plan
    valid : IsValid p plan
    costs : IsSomeAnd bound (λ known. known ≤ cost_of p plan)

  at_leaf : (s : Sets) (cost : ℕ) → IsPlanLeaf p bound s cost → IsOnly s plan → IsFoundIn s
  at_leaf s cost leaf only =
      let i = only_in s plan only in
      record { there = i; valid = subst (IsValid p) (sym (only_plan s leaf.one.plan plan leaf.one.only i)) leaf.one.valid; costs = at_plan p bound s cost leaf plan i }

  found_in : (t : Tree) (e : List Step) (s : Sets) → AtEach (λ e'. StepHolds p bound) e s t → IsPlanOfSome plan (plan_sets s t) → IsFoundIn s
  found_in (fail_leaf reason) e s a h = absurd h
  found_in (plan_leaf cost) e s a (inl h) = at_leaf s cost a h
  found_in (plan_leaf cost) e s a (inr h) = absurd h
  found_in left_leaf e s a h = absurd h
  found_in (cut_then x part reason t) e s a h =
      let f = found_in t (e ++ Cut x part reason ∷ []) (outside x part s) a.1 h in
      record { there = plan_stays s plan x (out_of_part part) f.there; valid = f.valid; costs = f.costs }
  found_in (decide_both x part t u) e s a h =
      elim (either_of plan (plan_sets (inside x part s) t) (plan_sets (outside x part s) u) h) [
        | inl k ↦
            let f = found_in t (e ++ Decide x part ∷ []) (inside x part s) a.1 k in
            record { there = plan_stays s plan x (in_part part) f.there; valid = f.valid; costs = f.costs }
        | inr k ↦
            let f = found_in u ((e ++ Decide x part ∷ []) ++ steps_of t) (outside x part s) a.2 k in
            record { there = plan_stays s plan x (out_of_part part) f.there; valid = f.valid; costs = f.costs }
      ]

pub plans_found_hold : PlansFoundHold
plans_found_hold p bound t a plan h =
    let f = found_in p bound plan t [] (start_sets p) a h in (start_is_plan p plan f.there, f.valid, f.costs)
