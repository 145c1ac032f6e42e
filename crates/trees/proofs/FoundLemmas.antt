-- What a search found is a tree that proves, is lean and was searched.
use Rattle.base.proofs.Public.{◌≡◌, ◌≢◌, ◌⊎◌, inl, inr, ℕ, ◌≤◌, List, [], ◌∷◌, ◌++◌, refl, sym, subst, arith, Option, Some, None, IsSomeAnd}
use Rattle.trees.specs.Prelude.{Cut, Decide, Fail, FoundAt, FoundIsLean, FoundIsSearched, FoundProves, inside, Instance, IsLow, LeanAt, least_cost, Left, Plan, plan_costs, Reason, Refutes, SearchedAt, Sets, SomeUpto, StayingProves, Step, StepHolds}
use Rattle.reasons.specs.declared.reason.Reason.TheVariants.{Empty, Bound, Load, Pair, Place, Group, SetLoad, Power, Usable, Hall}
use Rattle.trees.proofs.CountLemmas.{plan_costs_append}
use Rattle.trees.proofs.TurnLemmas.{at_each_map, at_each_turn}

-- ---- reasons

-- what refutes where no plan is handed in, refutes where one is
pub refutes_any : (p : Instance) (bound : Option ℕ) (s : Sets) (reason : Reason) → Refutes p None s reason → Refutes p bound s reason
refutes_any p bound s (Empty e) r = record { named = r.named; says = r.says }
refutes_any p bound s Bound r = absurd r.says
refutes_any p bound s (Load t n set) r = record { named = r.named; says = r.says }
refutes_any p bound s (Pair c t v w n) r = record { named = r.named; says = r.says }
refutes_any p bound s (Place c t v n) r = record { named = r.named; says = r.says }
refutes_any p bound s (Group c t) r = record { named = r.named; says = r.says }
refutes_any p bound s (SetLoad c t) r = record { named = r.named; says = r.says }
refutes_any p bound s (Power c t) r = record { named = r.named; says = r.says }
refutes_any p bound s (Usable t v n) r = record { named = r.named; says = r.says }
refutes_any p bound s (Hall c t set) r = record { named = r.named; says = r.says }

-- without a plan the bound refutes nothing
not_bound : (p : Instance) (s : Sets) (reason : Reason) → Refutes p None s reason → reason ≢ Bound
not_bound p s reason r same = let b = subst (Refutes p None s) same r in absurd b.says

-- the bound, and all else
pub bound_or : (reason : Reason) → (reason ≡ Bound) ⊎ (reason ≢ Bound)
bound_or (Empty e) = inr (λ h. cc)
bound_or Bound = inl refl
bound_or (Load t r set) = inr (λ h. cc)
bound_or (Pair c t v w n) = inr (λ h. cc)
bound_or (Place c t v n) = inr (λ h. cc)
bound_or (Group c t) = inr (λ h. cc)
bound_or (SetLoad c t) = inr (λ h. cc)
bound_or (Power c t) = inr (λ h. cc)
bound_or (Usable t v n) = inr (λ h. cc)
bound_or (Hall c t set) = inr (λ h. cc)

-- ---- low costs

low_front : (bound : Option ℕ) (a b : List ℕ) → IsLow bound (a ++ b) → IsLow bound a
low_front None [] b h = refl
low_front None (cost ∷ costs) b h = absurd (cc)
low_front (Some known) [] b h = tt
low_front (Some known) (cost ∷ costs) b h = (h.0, low_front (Some known) costs b h.1)

low_last : (bound : Option ℕ) (a : List ℕ) (cost : ℕ) → IsLow bound (a ++ cost ∷ []) → IsSomeAnd bound (λ known. known ≤ cost)
low_last None [] cost h = absurd (cc)
low_last None (other ∷ costs) cost h = absurd (cc)
low_last (Some known) [] cost h = h.0
low_last (Some known) (other ∷ costs) cost h = low_last (Some known) costs cost h.1

low_some : (bound : Option ℕ) (costs : List ℕ) (n : ℕ) → IsLow bound costs → SomeUpto n costs → IsSomeAnd bound (λ known. known ≤ n)
low_some None [] n h some = absurd some
low_some None (cost ∷ costs) n h some = absurd (cc)
low_some (Some known) [] n h some = absurd some
low_some (Some known) (cost ∷ costs) n h (inl a) = omega (arith, h.0)
low_some (Some known) (cost ∷ costs) n h (inr a) = low_some (Some known) costs n h.1 a

-- ---- step by step

module _ (p : Instance) (bound : Option ℕ) where
  abbrev AreLow : List Step → Type 0
  AreLow steps = IsLow bound (plan_costs steps)

  are_low_front : (a b : List Step) → AreLow (a ++ b) → AreLow a
  are_low_front a b h = low_front bound (plan_costs a) (plan_costs b) (subst (IsLow bound) (plan_costs_append a b) h)

  step_holds : (e : List Step) (s : Sets) (step : Step) → AreLow (e ++ step ∷ []) → FoundAt p e s step → StepHolds p bound s step
  step_holds e s (Decide x part) low found = found.split
  step_holds e s (Cut x part reason) low found = record { element = found.element; refuted = refutes_any p bound (inside x part s) reason found.refuted }
  step_holds e s (Fail reason) low found =
      elim (bound_or reason) [
        | inl same ↦
            let some = low_some bound (plan_costs e) (least_cost p s) (are_low_front e (Fail reason ∷ []) low) (found.met same) in
            subst (Refutes p bound s) (sym same) (record { named = tt; says = some })
        | inr other ↦ refutes_any p bound s reason (found.refuted other)
      ]
  step_holds e s (Plan cost) low found =
      record { one = found; handed_in = low_last bound (plan_costs e) cost (subst (IsLow bound) (plan_costs_append e (Plan cost ∷ [])) low) }
  step_holds e s Left low found = tt

lean_at : (p : Instance) (e : List Step) (s : Sets) (step : Step) → FoundAt p e s step → LeanAt p e s step
lean_at p e s (Decide x part) found = found.undecided
lean_at p e s (Cut x part reason) found = tt
lean_at p e s (Fail reason) found = tt
lean_at p e s (Plan cost) found = tt
lean_at p e s Left found = found

searched_at : (p : Instance) (e : List Step) (s : Sets) (step : Step) → FoundAt p e s step → SearchedAt p e s step
searched_at p e s (Decide x part) found = tt
searched_at p e s (Cut x part reason) found = not_bound p (inside x part s) reason found.refuted
searched_at p e s (Fail reason) found = found.met
searched_at p e s (Plan cost) found = tt
searched_at p e s Left found = tt

pub found_proves : FoundProves
found_proves p bound s t low found =
    at_each_turn (FoundAt p) (λ e. StepHolds p bound) (AreLow p bound) (are_low_front p bound) (step_holds p bound) t [] s low found

pub found_is_lean : FoundIsLean
found_is_lean p s t found = at_each_map (FoundAt p) (LeanAt p) (lean_at p) t [] s found

pub found_is_searched : FoundIsSearched
found_is_searched p s t found = at_each_map (FoundAt p) (SearchedAt p) (searched_at p) t [] s found

pub staying_proves : StayingProves
staying_proves p s = record { named = tt; says = omega arith }
