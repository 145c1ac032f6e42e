-- What is counted of steps, with one more step.
use Rattle.cert_model.proofs.Prelude.{◌≡◌, ℕ, List, [], ◌∷◌, ◌++◌, sym, ap, ◌∙◌, Option, Some, append-nil, Left, left_set, lower, lowest, plan_costs, Sets, Step, Plan, lowest_push, plan_costs_append}

abbrev cheapest_of : List ℕ → Option ℕ
cheapest_of costs = lowest (λ cost. cost) costs

-- the cheapest plan, where the step names one
pub cheapest_with : (known : Option ℕ) (cost n : ℕ) (step : Step) → step ≡ Plan cost → n ≡ lower cost known → (e : List Step) → known ≡ lowest (λ c. c) (plan_costs e) → Some n ≡ lowest (λ c. c) (plan_costs (e ++ step ∷ []))
cheapest_with known cost n step is low e same =
    ap (λ k. Some k) (low ∙ ap (lower cost) same)
    ∙ sym (lowest_push (λ c. c) (plan_costs e) cost)
    ∙ sym (ap (λ s. cheapest_of (plan_costs (e ++ s ∷ []))) is ∙ ap cheapest_of (plan_costs_append e (Plan cost ∷ [])))

-- and where it names none
pub cheapest_same : (known : Option ℕ) (step : Step) → plan_costs (step ∷ []) ≡ [] → (e : List Step) → known ≡ lowest (λ c. c) (plan_costs e) → known ≡ lowest (λ c. c) (plan_costs (e ++ step ∷ []))
cheapest_same known step none e same =
    same ∙ sym (ap cheapest_of (plan_costs_append e (step ∷ []) ∙ ap (λ k. plan_costs e ++ k) none ∙ append-nil (plan_costs e)))

-- the least of what is left, where the step leaves its sets
pub least_left_with : (known : Option ℕ) (sum n : ℕ) (step : Step) → step ≡ Left → n ≡ lower sum known → (f : Sets → ℕ) (all : List Sets) (s : Sets) → known ≡ lowest f all → sum ≡ f s → Some n ≡ lowest f (all ++ left_set s step)
least_left_with known sum n step is low f all s same of_sets =
    ap (λ k. Some k) (low ∙ ap (lower sum) same ∙ ap (λ k. lower k (lowest f all)) of_sets)
    ∙ sym (lowest_push f all s)
    ∙ sym (ap (λ k. lowest f (all ++ left_set s k)) is)
