-- A region that is one plan.
use Rattle.cert_model.proofs.Prelude.{◌≡◌, ℕ, ◌≤◌, sym, subst, ◌∙◌, Option, Some, IsSomeAnd, Choices, Instance, IsOnly, IsPlanLeaf, IsValid, least_cost, Sets, only_costs}

-- its cost is the sum of the least ends
pub plan_leaf : (p : Instance) (bound : Option ℕ) (s : Sets) (sum cost known : ℕ) (plan : Choices) → bound ≡ Some known → known ≤ cost → sum ≡ cost → sum ≡ least_cost p s → IsOnly s plan → IsValid p plan → IsPlanLeaf p bound s cost
plan_leaf p bound s sum cost known plan is upto whole same only valid = record {
  one = record { plan = plan; only = only; valid = valid; costs = sym (only_costs p s plan only) ∙ sym same ∙ whole };
  handed_in = subst (λ b. IsSomeAnd b (λ n. n ≤ cost)) (sym is) upto;
}

pub leaf_costs : (p : Instance) (bound : Option ℕ) (s : Sets) (sum cost : ℕ) → sum ≡ least_cost p s → IsPlanLeaf p bound s cost → sum ≡ cost
leaf_costs p bound s sum cost same leaf = same ∙ only_costs p s leaf.one.plan leaf.one.only ∙ leaf.one.costs
