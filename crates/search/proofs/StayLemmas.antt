-- The plan in which nothing is done.
use mathlib.Core.Path.{fun_ext}
use Rattle.base.proofs.Public.{◌≡◌, ℕ, ◌+◌, ◌-◌, Bool, List, [], ◌∷◌, ◌++◌, take, drop, length, refl, sym, ap, subst, ◌∙◌, arith, inr, Option, Some, replicate, All-cons, All-nil, drop-replicate, length-replicate, take-replicate, copies_at, sum_to-none}
use Rattle.search.specs.Prelude.{all_idle, Choice, choices_of, cost_of, Element, element_count, end_line, end_of, Fail, fail_leaf, Found, HasStep, Idle, Instance, inventory_of, IsInstance, IsPlan, IsPlanOf, IsShown, IsStayed, IsStayingPlan, IsTreeOf, IsTrueOf, IsValid, lines, machine_count, MayStay, Meaning, Node, node, node_count, Optimal, parted, PlanChoices, Proves, start_sets, step_line, sum_to, Vm, vm}
use Rattle.reasons.specs.declared.reason.Reason.TheVariants.{Bound}
use Rattle.trees.specs.declared.steps.Goal.{Goal}
use Rattle.trees.proofs.Public.{staying_proves}
use Rattle.search.proofs.{EndLemmas.tree_is_true, TextLemmas.one_line}

-- ---- the plan

idle_at : (p : Instance) (e : Element) → choices_of (parted p (replicate (element_count (inventory_of p)) Idle)) e ≡ Idle
idle_at p (Vm v) = ap (λ cs. choices_of (record { machines = cs; nodes = [] }) (Vm v)) machines ∙ copies_at (machine_count p) v.0 Idle
  where
    machines : take (machine_count p) (replicate (element_count (inventory_of p)) Idle) ≡ replicate (machine_count p) Idle
    machines = take-replicate (machine_count p) (element_count (inventory_of p)) Idle (omega arith)
idle_at p (Node n) = ap (λ cs. choices_of (record { machines = []; nodes = cs }) (Node n)) nodes ∙ copies_at (node_count p) n.0 Idle
  where
    rest : element_count (inventory_of p) - machine_count p ≡ node_count p
    rest = omega arith

    nodes : drop (machine_count p) (replicate (element_count (inventory_of p)) Idle) ≡ replicate (node_count p) Idle
    nodes = drop-replicate (machine_count p) (element_count (inventory_of p)) Idle ∙ ap (λ k. replicate k Idle) rest

pub idle_choices : (p : Instance) (items : List Choice) → items ≡ replicate (element_count (inventory_of p)) Idle → (e : Element) → choices_of (parted p items) e ≡ Idle
idle_choices p items is e = ap (λ cs. choices_of (parted p cs) e) is ∙ idle_at p e

all_same : (plan : PlanChoices) → ((e : Element) → choices_of plan e ≡ Idle) → choices_of plan ≡ all_idle
all_same plan idle = fun_ext idle

pub staying_found : (p : Instance) (items : List Choice) (plan : PlanChoices) → items ≡ replicate (element_count (inventory_of p)) Idle → plan ≡ parted p items → IsPlanOf p (parted p items) → IsValid p (choices_of plan) → IsStayingPlan p plan
staying_found p items plan is same whole valid = record {
  valid_plan = record { whole = subst (IsPlanOf p) (sym same) whole; valid = valid };
  idle = λ e. ap (λ (q : PlanChoices). choices_of q e) same ∙ idle_choices p items is e;
}

-- where the list is no plan, staying is none
pub no_plan : (p : Instance) (items : List Choice) → items ≡ replicate (element_count (inventory_of p)) Idle → ¬ IsPlanOf p (parted p items) → ¬ MayStay p
no_plan p items is none = λ may. none (record {
  machines = ap (λ cs. length (take (machine_count p) cs)) is ∙ ap length (take-replicate (machine_count p) (element_count (inventory_of p)) Idle (omega arith)) ∙ length-replicate (machine_count p) Idle;
  nodes = ap (λ cs. length (drop (machine_count p) cs)) is ∙ ap length (drop-replicate (machine_count p) (element_count (inventory_of p)) Idle) ∙ length-replicate (element_count (inventory_of p) - machine_count p) Idle ∙ rest;
  legal = subst (IsPlan p) (sym (all_same (parted p items) (idle_choices p items is))) may.legal;
})
  where
    rest : element_count (inventory_of p) - machine_count p ≡ node_count p
    rest = omega arith

pub not_valid : (p : Instance) (items : List Choice) (plan : PlanChoices) → items ≡ replicate (element_count (inventory_of p)) Idle → plan ≡ parted p items → ¬ IsValid p (choices_of plan) → ¬ MayStay p
not_valid p items plan is same broken =
    λ may. broken (subst (IsValid p) (sym (all_same plan (λ e. ap (λ (q : PlanChoices). choices_of q e) same ∙ idle_choices p items is e))) may.valid)

-- it costs nothing
costs_nothing : (p : Instance) (plan : PlanChoices) → ((e : Element) → choices_of plan e ≡ Idle) → cost_of p (choices_of plan) ≡ 0
unfolding end_of
costs_nothing p plan idle = λ i. machines i + nodes i
  where
    machines : sum_to (machine_count p) (λ v. end_of p (vm v) (choices_of plan (vm v))) ≡ 0
    machines = sum_to-none (machine_count p) _ (λ v _. ap (end_of p (vm v)) (idle (vm v)))

    nodes : sum_to (node_count p) (λ n. end_of p (node n) (choices_of plan (node n))) ≡ 0
    nodes = sum_to-none (node_count p) _ (λ n _. ap (end_of p (node n)) (idle (node n)))

-- ---- the answer

stayed_tree : (p : Instance) (budget : ℕ) (plan : PlanChoices) → IsStayingPlan p plan → IsTreeOf p budget (Optimal plan) (fail_leaf Bound)
stayed_tree p budget plan stays = record {
  certificate = record {
    proves = subst (λ n. Proves p (Some n) (start_sets p) (fail_leaf Bound)) (sym (costs_nothing p plan stays.idle)) (staying_proves p (start_sets p));
    shows = refl;
  };
  least = refl;
  lean = tt;
  searched = inr (refl, stays.idle, stays.valid_plan.valid);
  within = omega arith;
  writable = All-cons (HasStep p) (Fail Bound) [] tt (All-nil (HasStep p));
}

pub stayed_shown : {B : Type 0} (m : B → Meaning) (p : Instance) (budget : ℕ) (tells : Bool) (old : List ℕ) (new : Option (List ℕ)) (xs : List B) (found : Found) → IsStayed p tells old new found → IsShown m p budget tells old new xs xs found
stayed_shown m p budget tells old new xs found s =
    subst (λ (f : Found). IsShown m p budget tells old new xs xs f) (sym s.found_is) (record {
      tree = fail_leaf Bound;
      tree_is = stayed_tree p budget s.plan s.stays;
      text = λ t. s.text t ∙ ap (λ n. Some (old ++ lines p (Fail Bound ∷ []) ++ end_line (Goal.Optimal n))) (sym (costs_nothing p s.plan s.stays.idle));
      given = λ full. omega arith;
    })

pub stayed_true : (p : Instance) → IsInstance p → (budget : ℕ) (tells : Bool) (old : List ℕ) (new : Option (List ℕ)) (found : Found) → IsStayed p tells old new found → IsTrueOf p budget found
stayed_true p sound budget tells old new found s =
    subst (IsTrueOf p budget) (sym s.found_is) (tree_is_true p sound budget (Optimal s.plan) (fail_leaf Bound) s.stays.valid_plan.whole (stayed_tree p budget s.plan s.stays))

-- the two lines after the old bytes
pub stayed_text : (p : Instance) (old : List ℕ) (new : Option (List ℕ)) (mid : List ℕ) → mid ≡ old ++ step_line p (Fail Bound) → new ≡ Some (mid ++ end_line (Goal.Optimal 0)) → new ≡ Some (old ++ lines p (Fail Bound ∷ []) ++ end_line (Goal.Optimal 0))
stayed_text p old new mid line text =
    text ∙ ap (λ a. Some (a ++ end_line (Goal.Optimal 0))) line ∙ ap (λ a. Some (old ++ a ++ end_line (Goal.Optimal 0))) (sym (one_line p (Fail Bound)))
