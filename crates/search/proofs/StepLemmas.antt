-- One more step of a search.
use Rattle.base.proofs.Public.{◌≡◌, ℕ, ◌+◌, ◌<◌, ◌≤◌, Bool, true, false, ◌||◌, List, [], ◌∷◌, ◌++◌, refl, sym, ap, subst, ◌∙◌, append-nil, arith, Option, Some, None, IfSome, All-push}
use Rattle.search.specs.Prelude.{Best, children, choices_of, cost_kept, Progress, Cut, Decide, decisions, Element, Fail, FoundAt, has_left, HasReason, HasStep, inside, Instance, IsCheapest, IsCut, IsFailed, IsNumber, IsOnePlan, IsOnly, IsPlanOfCost, IsSplit, IsUndecided, least_cost, leaves_along, Left, left_along, left_set, lower, lowest, outside, Part, Plan, plan_costs, plan_set, Reason, Sets, start_sets, Step, Underway}
use Rattle.trees.proofs.Public.{decisions_append, gathered_push, has_left_append, leads_push, lowest_push, plan_at_last, plan_costs_append}

-- ---- any step

last_or : (b c : Bool) → (b || c) ≡ true → c ≡ false → b ≡ true
last_or true c h n = refl
last_or false c h n = absurd (cc)

module _ (p : Instance) (budget : ℕ) (k l : Progress) (e : List Step) (s : Sets) (rest : List Sets) (step : Step) (u : Underway p budget k e (s ∷ rest)) where
  leaves_next : leaves_along p (e ++ step ∷ []) ≡ leaves_along p e ++ plan_set s step
  leaves_next = gathered_push plan_set (FoundAt p) e [] (start_sets p ∷ []) s rest step u.leads

  left_next : left_along p (e ++ step ∷ []) ≡ left_along p e ++ left_set s step
  left_next = gathered_push left_set (FoundAt p) e [] (start_sets p ∷ []) s rest step u.leads

  step_on : FoundAt p e s step → HasStep p step → l.spent ≡ k.spent + decisions (step ∷ []) → l.spent ≤ budget → (has_left (step ∷ []) ≡ true → l.spent ≡ budget) →
      IsCheapest p l.best (plan_costs e ++ plan_costs (step ∷ [])) (leaves_along p e ++ plan_set s step) → l.least ≡ lowest (least_cost p) (left_along p e ++ left_set s step) →
      Underway p budget l (e ++ step ∷ []) (children s step ++ rest)
  step_on found named spent within left_last best least = record {
    leads = leads_push (FoundAt p) e (start_sets p ∷ []) s rest step u.leads found;
    spent = omega (arith, spent, u.spent, decisions_append e (step ∷ []));
    within = within;
    used_up = λ some. used (has_left (step ∷ [])) refl (sym (has_left_append e (step ∷ [])) ∙ some);
    best = subst (λ costs. IsCheapest p l.best costs (leaves_along p (e ++ step ∷ []))) (sym (plan_costs_append e (step ∷ []))) (subst (IsCheapest p l.best (plan_costs e ++ plan_costs (step ∷ []))) (sym leaves_next) best);
    least = least ∙ ap (lowest (least_cost p)) (sym left_next);
    writable = All-push (HasStep p) e step u.writable named;
  }
    where
      used : (b : Bool) → has_left (step ∷ []) ≡ b → (has_left e || has_left (step ∷ [])) ≡ true → l.spent ≡ budget
      used true is some = left_last is
      used false is some = let before : k.spent ≡ budget = u.used_up (last_or (has_left e) (has_left (step ∷ [])) some is) in omega (arith, before, spent, within)

  -- a step that names no plan and leaves nothing
  quiet_step : FoundAt p e s step → HasStep p step → decisions (step ∷ []) ≡ 0 → has_left (step ∷ []) ≡ false → plan_costs (step ∷ []) ≡ [] → plan_set s step ≡ [] → left_set s step ≡ [] → l ≡ k →
      Underway p budget l (e ++ step ∷ []) (children s step ++ rest)
  quiet_step found named none not_left no_cost no_plan no_left same =
      let spent : l.spent ≡ k.spent = ap (λ (c : Progress). c.spent) same in
      step_on found named (omega (arith, spent, none)) (omega (arith, spent, u.within)) (λ some. absurd (cc))
      (subst (λ (c : Progress). IsCheapest p c.best (plan_costs e ++ plan_costs (step ∷ [])) (leaves_along p e ++ plan_set s step)) (sym same)
      (subst (λ costs. IsCheapest p k.best (plan_costs e ++ costs) (leaves_along p e ++ plan_set s step)) (sym no_cost)
      (subst (λ leaves. IsCheapest p k.best (plan_costs e ++ []) (leaves_along p e ++ leaves)) (sym no_plan)
      (subst (λ costs. IsCheapest p k.best costs (leaves_along p e ++ [])) (sym (append-nil (plan_costs e)))
      (subst (IsCheapest p k.best (plan_costs e)) (sym (append-nil (leaves_along p e))) u.best)))))
      (ap (λ (c : Progress). c.least) same ∙ u.least ∙ ap (lowest (least_cost p)) (sym (append-nil (left_along p e)) ∙ ap (λ sets. left_along p e ++ sets) (sym no_left)))

-- ---- each step

module _ (p : Instance) (budget : ℕ) (k : Progress) (e : List Step) (s : Sets) (rest : List Sets) (u : Underway p budget k e (s ∷ rest)) where
  pub step_fail : (reason : Reason) → IsFailed p e s reason → HasReason p reason → Underway p budget k (e ++ Fail reason ∷ []) rest
  step_fail reason found named = quiet_step p budget k k e s rest (Fail reason) u found named refl refl refl refl refl refl

  pub step_cut : (x : Element) (part : Part) (reason : Reason) → IsCut p None s x part reason → HasStep p (Cut x part reason) → Underway p budget k (e ++ Cut x part reason ∷ []) (outside x part s ∷ rest)
  step_cut x part reason found named = quiet_step p budget k k e s rest (Cut x part reason) u found named refl refl refl refl refl refl

  pub step_decide : (l : Progress) (x : Element) (part : Part) → IsSplit p s x part → HasStep p (Decide x part) → IsUndecided p e s → k.spent < budget → l.spent ≡ k.spent + 1 → l.best ≡ k.best → l.least ≡ k.least →
      Underway p budget l (e ++ Decide x part ∷ []) (inside x part s ∷ outside x part s ∷ rest)
  step_decide l x part split named undecided room spent best least =
      step_on p budget k l e s rest (Decide x part) u (record { split = split; undecided = undecided }) named spent (omega arith) (λ some. absurd (cc))
      (subst (λ costs. IsCheapest p l.best costs (leaves_along p e ++ [])) (sym (append-nil (plan_costs e)))
      (subst (IsCheapest p l.best (plan_costs e)) (sym (append-nil (leaves_along p e))) (subst (λ b. IsCheapest p b (plan_costs e) (leaves_along p e)) (sym best) u.best)))
      (least ∙ u.least ∙ ap (lowest (least_cost p)) (sym (append-nil (left_along p e))))

  pub step_left : (l : Progress) (sum : ℕ) → IsUndecided p e s → k.spent ≡ budget → l.spent ≡ k.spent → l.best ≡ k.best → l.least ≡ Some (lower sum k.least) → sum ≡ least_cost p s → Underway p budget l (e ++ Left ∷ []) rest
  step_left l sum undecided full spent best least sum_is =
      step_on p budget k l e s rest Left u undecided tt (omega (arith, spent)) (omega (arith, spent, full)) (λ _. spent ∙ full)
      (subst (λ costs. IsCheapest p l.best costs (leaves_along p e ++ [])) (sym (append-nil (plan_costs e)))
      (subst (IsCheapest p l.best (plan_costs e)) (sym (append-nil (leaves_along p e))) (subst (λ b. IsCheapest p b (plan_costs e) (leaves_along p e)) (sym best) u.best)))
      (least ∙ ap (λ n. Some (lower n k.least)) sum_is ∙ ap (λ o. Some (lower (least_cost p s) o)) u.least ∙ sym (lowest_push (least_cost p) (left_along p e) s))

  -- a plan that is cheaper than the one that was kept
  pub step_plan : (l : Progress) (best : Best) → IsOnePlan p s best.cost → IsNumber best.cost → IsOnly s (choices_of best.plan) → IsPlanOfCost p best → IfSome (cost_kept k.best) (λ known. best.cost < known) →
      l.spent ≡ k.spent → l.best ≡ Some best → l.least ≡ k.least → Underway p budget l (e ++ Plan best.cost ∷ []) rest
  step_plan l best one number only of_cost cheaper spent best_is least =
      step_on p budget k l e s rest (Plan best.cost) u one number (omega (arith, spent)) (omega (arith, spent, u.within)) (λ some. absurd (cc))
      (subst (λ b. IsCheapest p b (plan_costs e ++ best.cost ∷ []) (leaves_along p e ++ s ∷ [])) (sym best_is) (record {
        cheapest = ap (λ n. Some n) (lowest_here (cost_kept k.best) cheaper) ∙ ap (λ o. Some (lower best.cost o)) u.best.cheapest ∙ sym (lowest_push (λ cost. cost) (plan_costs e) best.cost);
        met = plan_at_last (choices_of best.plan) (leaves_along p e) s only;
        plan = of_cost;
      }))
      (least ∙ u.least ∙ ap (lowest (least_cost p)) (sym (append-nil (left_along p e))))
    where
      lowest_here : (known : Option ℕ) → IfSome known (λ n. best.cost < n) → best.cost ≡ lower best.cost known
      lowest_here None below = refl
      lowest_here (Some n) below = omega arith
