-- What is known of a list of constraints, from the first search to the answer.
use Rattle.std.specs.Prelude.{◌↔◌}
use Rattle.catalogue.specs.declared.constraint.Constraint.{Constraint}
use Rattle.base.proofs.Public.{◌≡◌, ◌≢◌, Bool, false, false≢true, IsTrue, get_or_from_slice_get, inl, inr, ℕ, ◌+◌, ◌-◌, ◌<◌, ◌≤◌, ◌==◌, not, List, [], ◌∷◌, ◌++◌, length, slice_index, slice_index_or, Some, None, refl, ap, sym, subst, ◌∙◌, arith, cases_lt, get_or-append_right, get_or-range_with_len, get_or_append_left, length-append, length-range_with_len}
use Rattle.std.specs.List.{Contains}
use Rattle.std.proofs.lemmas.List.Elements.{All-filter}
use Rattle.std.proofs.lemmas.List.Kept.{AllPairs-from_increasing, IsStrictlyIncreasing-filter}
use Rattle.search.specs.declared.found.Found.TheVariants.{Infeasible, Optimal, Undecided}
use Rattle.explain.specs.Prelude.{all_numbers, AreNeeded, AreNumbers, choices_of, cost_of, Explains, FewerRules, form_of, Found, HasPlanOfCost, Instance, IsCertifiedText, IsCore, IsDecided, IsEnough, IsInfeasible, IsLeftOpen, IsNeeded, IsOpen, IsPlanOf, IsRefuted, IsShrunk, IsTrueOf, IsUnsettled, IsValidPlan, machine_count, node_count, PlanChoices, Settled, sub, without}
use Rattle.explain.specs.declared.explaining.Explained.{Explained}
use Rattle.explain.specs.declared.explaining.Explained.TheVariants as answer
use Rattle.explain.proofs.NumberLemmas.{as_many_before, either_first, same_before, shorter}
use Rattle.explain.proofs.SubLemmas.{cost_without, plan_without, sub_of_all, valid_without}

-- ---- one search

pub best_is_valid : (p : Instance) (budget : ℕ) (found : Found) (plan : PlanChoices) → found ≡ Optimal plan → IsTrueOf p budget found → IsValidPlan p plan
best_is_valid p budget found plan is h =
    let so : IsTrueOf p budget (Optimal plan) = subst (IsTrueOf p budget) is h in
    record { whole = so.0; valid = so.1.valid }

pub met_is_valid : (p : Instance) (budget : ℕ) (found : Found) (plan : PlanChoices) (least : ℕ) → found ≡ Undecided (Some plan) least → IsTrueOf p budget found → IsValidPlan p plan
met_is_valid p budget found plan least is h =
    let so : IsTrueOf p budget (Undecided (Some plan) least) = subst (IsTrueOf p budget) is h in
    so.best_is

pub none_is_refuted : (p : Instance) (budget : ℕ) (found : Found) (text : List ℕ) → found ≡ Infeasible → IsTrueOf p budget found → IsCertifiedText p budget found text → IsRefuted p budget text
none_is_refuted p budget found text is h certified = record {
  infeasible = subst (IsTrueOf p budget) is h;
  certified = subst (λ (f : Found). IsCertifiedText p budget f text) is certified;
}

pub none_met_is_open : (p : Instance) (budget : ℕ) (found : Found) (least : ℕ) (text : List ℕ) → found ≡ Undecided None least → IsTrueOf p budget found → IsCertifiedText p budget found text → IsOpen p budget text
none_met_is_open p budget found least text is h certified =
    let so : IsTrueOf p budget (Undecided None least) = subst (IsTrueOf p budget) is h in
    record { least = least; least_is = so.least_is; certified = subst (λ (f : Found). IsCertifiedText p budget f text) is certified; large = so.large }

-- ---- numbers

pub numbers_all : (p : Instance) → AreNumbers p (all_numbers p)
numbers_all p =
    let n = length p.constraints in
    let count = length-range_with_len 0 n in
    record {
      ascending = λ k lt. rw (get_or-range_with_len 0 n k 0 (omega arith), get_or-range_with_len 0 n (k + 1) 0 (omega arith)) (omega arith);
      listed = λ k d lt. rw (get_or-range_with_len 0 n k d (omega arith)) (omega arith);
    }

pub numbers_without : (p : Instance) (kept : List ℕ) (c : ℕ) → AreNumbers p kept → AreNumbers p (without c kept)
numbers_without p kept c h = record {
  ascending = IsStrictlyIncreasing-filter (λ x. not (x == c)) kept h.ascending;
  listed = All-filter (λ x. not (x == c)) (λ x. x < length p.constraints) kept h.listed;
}

-- ---- what is needed

pub is_needed : (p : Instance) (kept fewer : List ℕ) (c : ℕ) (q : Instance) (plan : PlanChoices) (cost : ℕ) → fewer ≡ without c kept → q ≡ sub p fewer → IsValidPlan q plan → cost ≡ cost_of q (choices_of plan) →
    IsNeeded p kept c cost
is_needed p kept fewer c q plan cost fewer_is sub_is valid costs =
    let q_is : q ≡ sub p (without c kept) = sub_is ∙ ap (sub p) fewer_is in
    record { plan = plan; valid_plan = subst (λ (x : Instance). IsValidPlan x plan) q_is valid; costs = sym (costs ∙ ap (λ (x : Instance). cost_of x (choices_of plan)) q_is) }

-- the test of a constraint
pub is_unsettled : (p : Instance) (c : ℕ) (x : Constraint) (b : Bool) → x ≡ slice_index_or p.constraints c x → (IsTrue b ↔ (form_of x ≡ Settled)) → b ≡ false → IsUnsettled p c
is_unsettled p c x b is test fails = λ y there settled.
    let same : x ≡ y = is ∙ get_or_from_slice_get p.constraints c y x there in
    let yes : IsTrue b = test.1 (ap form_of same ∙ settled) in
    absurd (false≢true (sym fails ∙ yes))

as_many : (p : Instance) (kept fewer : List ℕ) (plan : PlanChoices) → IsPlanOf (sub p kept) plan → (length plan.machines ≡ machine_count (sub p fewer)) × (length plan.nodes ≡ node_count (sub p fewer))
unfolding sub
as_many p kept fewer plan h = (h.machines, h.nodes)

pub fewer_rules : FewerRules
fewer_rules p kept c unsettled cost h = record {
  plan = h.plan;
  valid_plan = record {
    whole = record { machines = (as_many p kept (without c kept) h.plan h.valid_plan.whole).0; nodes = (as_many p kept (without c kept) h.plan h.valid_plan.whole).1; legal = plan_without p kept c unsettled (choices_of h.plan) h.valid_plan.whole.legal };
    valid = valid_without p kept c unsettled (choices_of h.plan) h.valid_plan.valid;
  };
  costs = cost_without p kept c unsettled (choices_of h.plan) ∙ h.costs;
}

-- none is known yet
pub none_needed : (p : Instance) (kept : List ℕ) → AreNeeded p kept []
none_needed p kept = record { few = omega arith; needed = λ i lt. absurd (omega arith) }

-- one more
pub one_more_needed : (p : Instance) (kept costs : List ℕ) (cost : ℕ) → AreNeeded p kept costs → length costs < length kept → IsNeeded p kept (slice_index kept (length costs)) cost →
    AreNeeded p kept (costs ++ cost ∷ [])
one_more_needed p kept costs cost h lt needed = record {
  few = simp length-append (omega arith);
  needed = λ i below. elim (cases_lt i (length costs)) [
    | inl before ↦ rw (get_or_append_left costs (cost ∷ []) 0 i before) (h.needed i before)
    | inr not_before ↦ at i (simp length-append at below) not_before
  ];
}
  where
    at : (i : ℕ) → i < length costs + 1 → length costs ≤ i → IsNeeded p kept (slice_index kept i) (slice_index (costs ++ cost ∷ []) i)
    at i below not_before =
        let here : i ≡ length costs = omega arith in
        let none : length costs - length costs ≡ 0 = omega arith in
        rw (here, get_or-append_right costs (cost ∷ []) (length costs) (length costs) 0 refl (omega arith), none) needed

-- those before one that is lost go on to be needed, where that is no part of the demand, of the capacity or of the legal choices
pub still_needed : (p : Instance) (kept costs : List ℕ) (c : ℕ) → AreNumbers p kept → IsUnsettled p c → AreNeeded p kept costs → length costs < length kept → slice_index kept (length costs) ≡ c →
    AreNeeded p (without c kept) costs
still_needed p kept costs c numbers unsettled h lt is = record {
  few = as_many_before c kept (length costs) (omega arith) other;
  needed = λ i below.
      rw (same_before c kept (length costs) (omega arith) other i below)
      (subst (λ (l : List ℕ). HasPlanOfCost (sub p l) (slice_index costs i)) (either_first c (slice_index kept i) kept)
      (fewer_rules p (without (slice_index kept i) kept) c unsettled (slice_index costs i) (h.needed i below)));
}
  where
    other : (j : ℕ) → j < length costs → slice_index kept j ≢ c
    other j below same =
        let less = AllPairs-from_increasing kept numbers.ascending j (length costs) 0 below lt in
        omega arith

-- ---- making the list shorter

pub shrunk_first : (p : Instance) (budget : ℕ) (text : List ℕ) → IsRefuted p budget text → IsShrunk p budget (all_numbers p) text []
shrunk_first p budget text h = record {
  numbers = numbers_all p;
  core = rw (sub_of_all p) h;
  needed = none_needed p (all_numbers p);
}

pub shrunk_more : (p : Instance) (budget c : ℕ) (kept fewer before text costs after : List ℕ) → IsShrunk p budget kept before costs → fewer ≡ without c kept → IsRefuted (sub p fewer) budget text →
    AreNeeded p (without c kept) after → IsShrunk p budget fewer text after
shrunk_more p budget c kept fewer before text costs after h is refuted needed = record {
  numbers = rw is (numbers_without p kept c h.numbers);
  core = refuted;
  needed = rw is needed;
}

pub shorter_by_one : (kept fewer costs : List ℕ) (c : ℕ) → fewer ≡ without c kept → length costs < length kept → slice_index kept (length costs) ≡ c → length fewer < length kept
shorter_by_one kept fewer costs c is lt at = rw is (shorter c kept (length costs) lt at)

pub shrunk_core : (p : Instance) (budget : ℕ) (kept text costs : List ℕ) → IsInfeasible p → IsShrunk p budget kept text costs → length costs ≡ length kept → IsCore p budget kept text costs
shrunk_core p budget kept text costs infeasible h count = record {
  infeasible = infeasible;
  numbers = h.numbers;
  core = h.core;
  count = count;
  needed = λ i lt. h.needed.needed i (omega arith);
}

pub shrunk_open : (p : Instance) (budget c : ℕ) (kept fewer before text costs : List ℕ) → IsInfeasible p → IsShrunk p budget kept before costs → Contains kept c → fewer ≡ without c kept →
    IsOpen (sub p fewer) budget text → IsLeftOpen p budget fewer text
shrunk_open p budget c kept fewer before text costs infeasible h listed is left = record {
  numbers = rw is (numbers_without p kept c h.numbers);
  left = left;
  from = inr (record { infeasible = infeasible; before = kept; numbers = h.numbers; core = h.core.infeasible; lost = c; listed = listed; fewer = is });
}

pub all_left_open : (p : Instance) (budget : ℕ) (text : List ℕ) → IsOpen p budget text → IsLeftOpen p budget (all_numbers p) text
all_left_open p budget text left = record {
  numbers = numbers_all p;
  left = rw (sub_of_all p) left;
  from = inl refl;
}

-- a budget that tells all plans apart leaves nothing open
pub is_decided : (p : Instance) (budget : ℕ) (x : Explained) → Explains p budget x → IsEnough p budget → IsDecided x
is_decided p budget (answer.Feasible plan) h enough = tt
is_decided p budget (answer.Core kept certificate costs) h enough = tt
is_decided p budget (answer.Undecided kept certificate) h enough =
    let large = h.left.large in
    let small = enough kept.items h.numbers in
    absurd (omega arith)
