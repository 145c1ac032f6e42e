-- Problems with some of the constraints of another one.
use Rattle.base.proofs.Public.{◌≡◌, ℕ, true, List, length, None, arith}
use Rattle.catalogue.specs.Prelude.{limit_with, machine_wish_with, node_wish_with, preserved_with}
use Rattle.catalogue.specs.declared.targets.Wish.TheVariants.{Keep}
use Rattle.explain.specs.Prelude.{all_numbers, AreNumbers, Choices, cost_of, Instance, inventory_of, is_rule, IsInstance, IsPlan, IsUnsettled, IsValid, picked, sub, without}
use Rattle.explain.proofs.NumberLemmas.{few_below}
use Rattle.explain.proofs.PickLemmas.{all_among, all_picked, picked_among, picked_few, picked_of_all, same_fold}
use Rattle.explain.proofs.NeutralLemmas.{neutral}
use Rattle.explain.proofs.FewerLemmas.{plan_of_few, same_cost, SaySame, valid_of_few}

-- with all constraints it is the problem itself
pub sub_of_all : (p : Instance) → sub p (all_numbers p) ≡ p
unfolding sub
sub_of_all p = λ i. record p { constraints = all_picked p.constraints i }

-- it is sound
pub sub_sound : (p : Instance) → IsInstance p → (kept : List ℕ) → AreNumbers p kept → IsInstance (sub p kept)
unfolding sub
sub_sound p sound kept numbers =
    let few = picked_few p.constraints kept in
    let below = few_below (length p.constraints) kept numbers.ascending numbers.listed in
    record {
      inventory = sound.inventory;
      horizon = sound.horizon;
      few = omega (arith, few, below, sound.few);
      rules = all_among (λ c. is_rule (inventory_of p) c ≡ true) _ _ (picked_of_all p.constraints kept) sound.rules;
    }

-- ---- without one constraint that is no part of the demand, of the capacity or of the legal choices

says_same : (p : Instance) (c : ℕ) → IsUnsettled p c → (kept : List ℕ) → SaySame (picked p.constraints (without c kept)) (picked p.constraints kept)
says_same p c unsettled kept = record {
  preserved = λ v r. same_fold (preserved_with v r) p.constraints c (λ x is a. (neutral x (unsettled x is)).preserved v r a) kept 0;
  limit = λ n r w. same_fold (limit_with n r w) p.constraints c (λ x is a. (neutral x (unsettled x is)).limit n r w a) kept None;
  machine_wish = λ v. same_fold (machine_wish_with v) p.constraints c (λ x is a. (neutral x (unsettled x is)).machine_wish v a) kept Keep;
  node_wish = λ n. same_fold (node_wish_with n) p.constraints c (λ x is a. (neutral x (unsettled x is)).node_wish n a) kept Keep;
}

-- what was a plan is one, and costs the same; what was valid is valid
pub plan_without : (p : Instance) (kept : List ℕ) (c : ℕ) → IsUnsettled p c → (plan : Choices) → IsPlan (sub p kept) plan → IsPlan (sub p (without c kept)) plan
unfolding sub
plan_without p kept c unsettled plan is = plan_of_few p _ _ (says_same p c unsettled kept) plan is

pub cost_without : (p : Instance) (kept : List ℕ) (c : ℕ) → IsUnsettled p c → (plan : Choices) → cost_of (sub p (without c kept)) plan ≡ cost_of (sub p kept) plan
unfolding sub
cost_without p kept c unsettled plan = same_cost p _ _ (says_same p c unsettled kept) plan

pub valid_without : (p : Instance) (kept : List ℕ) (c : ℕ) → IsUnsettled p c → (plan : Choices) → IsValid (sub p kept) plan → IsValid (sub p (without c kept)) plan
unfolding sub
valid_without p kept c unsettled plan valid = valid_of_few p _ _ (says_same p c unsettled kept) (picked_among p.constraints c kept) plan valid
