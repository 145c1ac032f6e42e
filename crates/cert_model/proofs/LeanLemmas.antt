-- Undecided sets, by what is kept of the steps before.
use Rattle.cert_model.proofs.Prelude.{◌≡◌, ℕ, ◌<◌, List, sym, subst, Option, Some, None, IfSome, AreFixed, Instance, IsClosed, IsFixed, IsSized, IsUndecided, least_cost, lowest, Node, plan_costs, RegionView, sets, Step, Vm, IsAbove, above_cheapest}

-- ---- below each plan, or below the cheapest

above_some : (n : ℕ) (known : Option ℕ) → IfSome known (λ m. n < m) → IsAbove n known
above_some n None h = tt
above_some n (Some m) h = h

some_above : (n : ℕ) (known : Option ℕ) → IsAbove n known → IfSome known (λ m. n < m)
some_above n None h = tt
some_above n (Some m) h = h

-- ---- one plan, or not

fixed_sets : (p : Instance) (g : RegionView) → IsSized p g → IsFixed g → AreFixed p (sets g)
fixed_sets p g sized fixed (Vm v) i = fixed (Vm v) (subst (λ n. v.0 < n) (sym sized.machines) i)
fixed_sets p g sized fixed (Node n) i = fixed (Node n) (subst (λ k. n.0 < k) (sym sized.nodes) i)

sets_fixed : (p : Instance) (g : RegionView) → IsSized p g → AreFixed p (sets g) → IsFixed g
sets_fixed p g sized fixed (Vm v) i = fixed (Vm v) (subst (λ n. v.0 < n) sized.machines i)
sets_fixed p g sized fixed (Node n) i = fixed (Node n) (subst (λ k. n.0 < k) sized.nodes i)

module _ (p : Instance) (g : RegionView) (sized : IsSized p g) (known : Option ℕ) (sum : ℕ) (same : sum ≡ least_cost p (sets g)) (e : List Step) (cheapest : known ≡ lowest (λ cost. cost) (plan_costs e)) where
  pub is_undecided : IsClosed p (sets g) → ¬ IsFixed g → IfSome known (λ m. sum < m) → IsUndecided p e (sets g)
  is_undecided closed unfixed below = record {
    closed = closed;
    not_one = λ fixed. unfixed (sets_fixed p g sized fixed);
    below = (above_cheapest (least_cost p (sets g)) (plan_costs e)).1 (
        subst (λ n. IsAbove n (lowest (λ cost. cost) (plan_costs e))) same (subst (IsAbove sum) cheapest (above_some sum known below))
        );
  }

  pub undecided_below : IsUndecided p e (sets g) → IfSome known (λ m. sum < m)
  undecided_below undecided =
      some_above sum known (
      subst (IsAbove sum) (sym cheapest) (
      subst (λ n. IsAbove n (lowest (λ cost. cost) (plan_costs e))) (sym same) ((above_cheapest (least_cost p (sets g)) (plan_costs e)).0 undecided.below)
      )
      )

  pub undecided_unfixed : IsUndecided p e (sets g) → ¬ IsFixed g
  undecided_unfixed undecided fixed = undecided.not_one (fixed_sets p g sized fixed)
