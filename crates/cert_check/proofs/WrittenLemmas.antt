-- The steps of a tree that proves all legal choices can be written, and name what they are.
use Rattle.cert_check.proofs.Prelude.{map, ◌≡◌, ℕ, ◌+◌, ◌*◌, ◌≤◌, Bool, true, false, List, [], ◌∷◌, ◌++◌, Option, Some, None, refl, subst, arith, All, All-head, All-tail, All-weaker, sum_to-bound, AreWritable, bound_of, children, Choices, cost_of, Cut, Decide, decisions, Fail, goal_of, HasStep, HasWritablePart, in_part, Instance, IsGoal, IsHandedIn, IsIn, IsInstance, IsNumber, IsPlan, IsPlanLeaf, IsWritable, Leads, Left, machine_count, max_cost, named_step, node, node_count, out_of_part, Proves, Sets, start_sets, step_text, StepHolds, steps_of, sum_to, Tree, vm, Step, Plan, plan_stays, start_is_plan, leads_tree, only_in, named_reason, end_small}
use Rattle.cert_check.proofs.NamedLemmas.{IsNamedStep, step_here}
use Rattle.slices.specs.Actions.{end_of}

-- ---- a tree whose steps can be written

has_writable_part : (p : Instance) (step : Step) → HasStep p step → HasWritablePart p step
has_writable_part p (Decide x side) has = has.1
has_writable_part p (Cut x side why) has = has.1
has_writable_part p (Fail why) has = tt
has_writable_part p (Plan cost) has = tt
has_writable_part p Left has = tt

pub is_writable : (p : Instance) (t : Tree) → All (HasStep p) (steps_of t) → IsNumber (decisions (steps_of t)) → IsWritable p t
is_writable p t steps few = record {
  parts = All-weaker (HasStep p) (HasWritablePart p) (has_writable_part p) (steps_of t) steps;
  counted = few;
}

-- ---- how great a cost is

ends_in_all : (m n h a b : ℕ) → m ≤ 4096 → n ≤ 512 → h ≤ 1000000 → a ≤ m * h → b ≤ n * h → a + b ≤ max_cost
ends_in_all m n h a b few_machines few_nodes early all_machines all_nodes = grind (arith, few_machines, few_nodes, early, all_machines, all_nodes)

cost_is_small : (p : Instance) → IsInstance p → (plan : Choices) → IsPlan p plan → cost_of p plan ≤ max_cost
cost_is_small p is plan legal =
    ends_in_all (machine_count p) (node_count p) p.horizon
    (sum_to (machine_count p) (λ v. end_of p (vm v) (plan (vm v)))) (sum_to (node_count p) (λ n. end_of p (node n) (plan (node n))))
    is.inventory.few_machines is.inventory.few_nodes is.horizon
    (sum_to-bound (machine_count p) p.horizon (λ v. end_of p (vm v) (plan (vm v))) (λ v l. end_small p is (vm v) (plan (vm v)) (legal (vm v) l)))
    (sum_to-bound (node_count p) p.horizon (λ n. end_of p (node n) (plan (node n))) (λ n l. end_small p is (node n) (plan (node n)) (legal (node n) l)))

pub cost_fits : (p : Instance) → IsInstance p → (plan : Choices) → IsPlan p plan → IsNumber (cost_of p plan)
cost_fits p is plan legal = omega (arith, cost_is_small p is plan legal)

-- ---- a goal that is shown can be written

pub goal_fits : (p : Instance) → IsInstance p → (plan : Option Choices) → IsHandedIn p plan → (left : Bool) (count : ℕ) → IsNumber count → IsGoal (goal_of left count (bound_of p plan))
goal_fits p is plan handed true count few = few
goal_fits p is (Some plan) handed false count few = cost_fits p is plan handed.0
goal_fits p is None handed false count few = tt

-- ---- a step that holds can be written

-- each plan of the sets is a plan of the instance
abbrev HasPlansAlone : Instance → Sets → Type 0
HasPlansAlone p s = (plan : Choices) → IsIn s plan → IsPlan p plan

abbrev HavePlansAlone : Instance → List Sets → Type 0
HavePlansAlone p [] = Unit {0}
HavePlansAlone p (s ∷ rest) = HasPlansAlone p s × HavePlansAlone p rest

children_have : (p : Instance) (s : Sets) (rest : List Sets) (step : Step) → HasPlansAlone p s → HavePlansAlone p rest → HavePlansAlone p (children s step ++ rest)
children_have p s rest (Decide x side) here all = (λ plan h. here plan (plan_stays s plan x (in_part side) h), (λ plan h. here plan (plan_stays s plan x (out_of_part side) h), all))
children_have p s rest (Cut x side why) here all = (λ plan h. here plan (plan_stays s plan x (out_of_part side) h), all)
children_have p s rest (Fail why) here all = all
children_have p s rest (Plan cost) here all = all
children_have p s rest Left here all = all

leaf_fits : (p : Instance) → IsInstance p → (bound : Option ℕ) (s : Sets) (cost : ℕ) → HasPlansAlone p s → IsPlanLeaf p bound s cost → IsNumber cost
leaf_fits p is bound s cost here leaf = subst IsNumber leaf.one.costs (cost_fits p is leaf.one.plan (here leaf.one.plan (only_in s leaf.one.plan leaf.one.only)))

named_where : (p : Instance) → IsInstance p → (bound : Option ℕ) (s : Sets) (step : Step) → HasPlansAlone p s → StepHolds p bound s step → HasWritablePart p step → IsNamedStep p step
named_where p is bound s (Decide x side) here holds written = (holds.element, written)
named_where p is bound s (Cut x side why) here holds written = (holds.element, written, holds.refuted.named)
named_where p is bound s (Fail why) here holds written = holds.named
named_where p is bound s (Plan cost) here holds written = leaf_fits p is bound s cost here holds
named_where p is bound s Left here holds written = tt

abbrev pub AreNamedSteps : Instance → List Step → Type 0
AreNamedSteps p [] = Unit {0}
AreNamedSteps p (step ∷ steps) = IsNamedStep p step × AreNamedSteps p steps

module _ (p : Instance) (is : IsInstance p) (bound : Option ℕ) where
  named_along : (steps e : List Step) (from now : List Sets) → HavePlansAlone p from → Leads (λ before. StepHolds p bound) e from steps now → All (HasWritablePart p) steps → AreNamedSteps p steps
  named_along [] e from now have leads written = tt
  named_along (step ∷ steps) e [] now have leads written = absurd leads
  named_along (step ∷ steps) e (s ∷ rest) now have leads written = (
    named_where p is bound s step have.0 leads.0 (All-head (HasWritablePart p) step steps written),
    named_along steps (e ++ step ∷ []) (children s step ++ rest) now (children_have p s rest step have.0 have.1) leads.1 (All-tail (HasWritablePart p) step steps written),
  )

  pub all_named : (t : Tree) → Proves p bound (start_sets p) t → All (HasWritablePart p) (steps_of t) → AreNamedSteps p (steps_of t)
  all_named t proves written =
      named_along (steps_of t) [] (start_sets p ∷ []) [] (λ plan h. start_is_plan p plan h, tt) (leads_tree (λ before. StepHolds p bound) t [] (start_sets p) [] proves) written

-- ---- so it is a line, which names it

module _ (p : Instance) (is : IsInstance p) where
  step_written : (step : Step) → IsNamedStep p step → HasStep p step
  step_written (Decide x side) named = named
  step_written (Cut x side why) named = (named.0, named.1, named_reason p is why named.2)
  step_written (Fail why) named = named_reason p is why named
  step_written (Plan cost) named = named
  step_written Left named = tt

  pub all_written : (steps : List Step) → AreNamedSteps p steps → AreWritable p steps
  all_written [] named = tt
  all_written (step ∷ steps) named = (step_written step named.0, all_written steps named.1)

  pub all_here : (steps : List Step) → AreNamedSteps p steps → map (named_step p) (map (step_text p) steps) ≡ map (λ step. Some step) steps
  all_here [] named = refl
  all_here (step ∷ steps) named = rw (step_here p is step named.0, all_here steps named.1) refl

-- of the first steps of some
pub first_named : (p : Instance) (front rest : List Step) → AreNamedSteps p (front ++ rest) → AreNamedSteps p front
first_named p [] rest named = tt
first_named p (step ∷ front) rest named = (named.0, first_named p front rest named.1)

-- and the one after them
pub one_named : (p : Instance) (front more : List Step) (step : Step) → AreNamedSteps p (front ++ step ∷ more) → IsNamedStep p step
one_named p [] more step named = named.0
one_named p (first ∷ front) more step named = one_named p front more step named.1
