-- What is counted along steps, of several steps after one another.
use Rattle.std.proofs.Common.{◌≡◌, ◌+◌, List, [], ◌∷◌, ◌++◌, refl, ap, arith, ◌||◌}
use Rattle.trees.specs.Prelude.{Cut, Decide, decisions, Fail, has_left, Left, Plan, plan_costs, Step}

pub decisions_append : (a b : List Step) → decisions (a ++ b) ≡ decisions a + decisions b
decisions_append [] b = omega arith
decisions_append (Decide x part ∷ steps) b = omega (arith, decisions_append steps b)
decisions_append (Cut x part reason ∷ steps) b = decisions_append steps b
decisions_append (Fail reason ∷ steps) b = decisions_append steps b
decisions_append (Plan cost ∷ steps) b = decisions_append steps b
decisions_append (Left ∷ steps) b = decisions_append steps b

pub has_left_append : (a b : List Step) → has_left (a ++ b) ≡ (has_left a || has_left b)
has_left_append [] b = refl
has_left_append (Decide x part ∷ steps) b = has_left_append steps b
has_left_append (Cut x part reason ∷ steps) b = has_left_append steps b
has_left_append (Fail reason ∷ steps) b = has_left_append steps b
has_left_append (Plan cost ∷ steps) b = has_left_append steps b
has_left_append (Left ∷ steps) b = refl

pub plan_costs_append : (a b : List Step) → plan_costs (a ++ b) ≡ plan_costs a ++ plan_costs b
plan_costs_append [] b = refl
plan_costs_append (Decide x part ∷ steps) b = plan_costs_append steps b
plan_costs_append (Cut x part reason ∷ steps) b = plan_costs_append steps b
plan_costs_append (Fail reason ∷ steps) b = plan_costs_append steps b
plan_costs_append (Plan cost ∷ steps) b = ap (λ k. cost ∷ k) (plan_costs_append steps b)
plan_costs_append (Left ∷ steps) b = plan_costs_append steps b
