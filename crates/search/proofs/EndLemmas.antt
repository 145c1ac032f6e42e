-- From the steps of a search that is done to its tree, and from the tree to what is so of all plans.
use Rattle.base.proofs.Public.{◌≡◌, inl, inr, ℕ, ◌≤◌, Bool, true, false, List, [], refl, sym, ap, subst, ◌∙◌, arith, Option, Some, None, is_some, All, IfSome, IsSomeAnd}
use Rattle.search.specs.Prelude.{Best, bound_of, choices_in, choices_of, cost_kept, cost_of, Progress, decisions, Found, found_of, FoundAt, goal_in, goal_of, has_left, HasStep, Infeasible, Instance, IsHandedIn, IsInstance, IsLow, IsPlanFound, IsPlanOf, IsPlanOfCost, IsTreeOf, IsTrueOf, IsValid, IsValidPlan, least_cost, least_in, least_of, least_shown, leaves_along, left_along, left_set, left_sets, lower_of, lowest, Optimal, plan_costs, plan_in, plan_kept, plan_set, plan_sets, PlanChoices, Proves, shown, start_sets, Step, steps_of, Tree, Undecided, Underway, WasSearched}
use Rattle.trees.specs.declared.steps.Goal.{Goal}
use Rattle.trees.proofs.Public.{IsOneTree, certificates_hold, cheapest_is_low, found_is_lean, found_is_searched, found_proves, gathered_whole, lean_trees_fit, least_is_shown, plans_found_hold, tree_of}

-- ---- the answer, by what is kept

plan_found : (best : Option Best) (least : Option ℕ) → plan_in (found_of best least) ≡ plan_kept best
plan_found None None = refl
plan_found (Some b) None = refl
plan_found None (Some sum) = refl
plan_found (Some b) (Some sum) = refl

least_found : (best : Option Best) (least : Option ℕ) → least_in (found_of best least) ≡ lower_of (cost_kept best) least
least_found None None = refl
least_found (Some b) None = refl
least_found None (Some sum) = refl
least_found (Some b) (Some sum) = refl

goal_found : (p : Instance) (budget count : ℕ) (best : Option Best) (least : Option ℕ) → IfSome best (IsPlanOfCost p) → (is_some least ≡ true → count ≡ budget) → goal_in p budget (found_of best least) ≡ goal_of (is_some least) count (cost_kept best)
goal_found p budget count None None of_cost used = refl
goal_found p budget count (Some b) None of_cost used = ap (λ n. Goal.Optimal n) (sym of_cost.costs)
goal_found p budget count None (Some sum) of_cost used = ap (λ n. Goal.Undecided n) (sym (used refl))
goal_found p budget count (Some b) (Some sum) of_cost used = ap (λ n. Goal.Undecided n) (sym (used refl))

bound_found : (p : Instance) (best : Option Best) → IfSome best (IsPlanOfCost p) → cost_kept best ≡ bound_of p (choices_in (plan_kept best))
bound_found p None of_cost = refl
bound_found p (Some b) of_cost = ap (λ n. Some n) of_cost.costs

is_some_lower : (bound least : Option ℕ) → is_some (lower_of bound least) ≡ is_some least
is_some_lower bound None = refl
is_some_lower bound (Some n) = refl

-- a tree whose steps these are, and which shows the answer
pub record IsShownBy (p : Instance) (budget : ℕ) (found : Found) (steps : List Step) : Type 0 where
  pub tree : Tree
  pub same : steps ≡ steps_of tree
  pub tree_is : IsTreeOf p budget found tree

module _ (p : Instance) (budget : ℕ) (k : Progress) (steps : List Step) (u : Underway p budget k steps []) where
  one : IsOneTree (FoundAt p) (start_sets p) steps
  one = tree_of (FoundAt p) (start_sets p) steps u.leads

  costs_of_tree : cost_kept k.best ≡ lowest (λ cost. cost) (plan_costs (steps_of one.tree))
  costs_of_tree = u.best.cheapest ∙ ap (λ ss. lowest (λ cost. cost) (plan_costs ss)) one.same

  least_of_tree : k.least ≡ lowest (least_cost p) (left_sets (start_sets p) one.tree)
  least_of_tree = u.least ∙ ap (λ ss. lowest (least_cost p) (left_along p ss)) one.same ∙ ap (lowest (least_cost p)) (gathered_whole left_set one.tree (start_sets p))

  bound_is : cost_kept k.best ≡ bound_of p (choices_in (plan_kept k.best))
  bound_is = bound_found p k.best u.best.plan

  tree_proves : Proves p (cost_kept k.best) (start_sets p) one.tree
  tree_proves = found_proves p (cost_kept k.best) (start_sets p) one.tree (subst (λ o. IsLow o (plan_costs (steps_of one.tree))) (sym costs_of_tree) (cheapest_is_low (plan_costs (steps_of one.tree)))) one.each

  some_left : is_some k.least ≡ has_left steps
  some_left =
      sym (is_some_lower (cost_kept k.best) k.least) ∙ ap (λ o. is_some (lower_of (cost_kept k.best) o)) least_of_tree
      ∙ least_is_shown p (cost_kept k.best) (start_sets p) one.tree ∙ ap has_left (sym one.same)

  leaves_are : IsPlanFound (choices_in (plan_kept k.best)) (plan_sets (start_sets p) one.tree)
  leaves_are = subst (IsPlanFound (choices_in (plan_kept k.best))) (ap (λ ss. leaves_along p ss) one.same ∙ gathered_whole plan_set one.tree (start_sets p)) u.best.met

  shown_steps : goal_in p budget (found_of k.best k.least) ≡ shown (bound_of p (choices_in (plan_kept k.best))) (steps_of one.tree)
  shown_steps =
      goal_found p budget (decisions steps) k.best k.least u.best.plan (λ some. sym u.spent ∙ u.used_up (sym some_left ∙ some))
      ∙ ap (λ b. goal_of b (decisions steps) (cost_kept k.best)) some_left ∙ ap (λ ss. shown (cost_kept k.best) ss) one.same ∙ ap (λ o. shown o (steps_of one.tree)) bound_is

  pub tree_found : IsShownBy p budget (found_of k.best k.least) steps
  tree_found =
      let plan : plan_kept k.best ≡ plan_in (found_of k.best k.least) = sym (plan_found k.best k.least) in
      record {
        tree = one.tree;
        same = one.same;
        tree_is = record {
          certificate = record {
            proves = subst (λ q. Proves p (bound_of p (choices_in q)) (start_sets p) one.tree) plan (subst (λ o. Proves p o (start_sets p) one.tree) bound_is tree_proves);
            shows = shown_steps ∙ ap (λ q. shown (bound_of p (choices_in q)) (steps_of one.tree)) plan;
          };
          least = least_found k.best k.least ∙ ap (lower_of (cost_kept k.best)) least_of_tree ∙ ap (λ o. least_shown p o (start_sets p) one.tree) bound_is ∙ ap (λ q. least_of p (choices_in q) one.tree) plan;
          lean = found_is_lean p (start_sets p) one.tree one.each;
          searched = inl (record {
            each = found_is_searched p (start_sets p) one.tree one.each;
            found = subst (λ q. IsPlanFound (choices_in q) (plan_sets (start_sets p) one.tree)) plan leaves_are;
          });
          within = subst (λ n. n ≤ budget) (u.spent ∙ ap decisions one.same) u.within;
          writable = subst (All (HasStep p)) one.same u.writable;
        };
      }

  pub plan_whole : IfSome (plan_in (found_of k.best k.least)) (IsPlanOf p)
  plan_whole = subst (λ q. IfSome q (IsPlanOf p)) (sym (plan_found k.best k.least)) (whole k.best u.best.plan)
    where
      whole : (best : Option Best) → IfSome best (IsPlanOfCost p) → IfSome (plan_kept best) (IsPlanOf p)
      whole None of_cost = tt
      whole (Some b) of_cost = of_cost.whole

-- ---- what is so of all plans

valid_of : (p : Instance) (plan : PlanChoices) (t : Tree) → Proves p (Some (cost_of p (choices_of plan))) (start_sets p) t → WasSearched p (Some (choices_of plan)) (start_sets p) t → IsValid p (choices_of plan)
valid_of p plan t proves (inl searched) = (plans_found_hold p (Some (cost_of p (choices_of plan))) t proves (choices_of plan) searched.found).1
valid_of p plan t proves (inr staying) = staying.2

handed_in : (p : Instance) (plan : Option PlanChoices) (t : Tree) → IfSome plan (IsPlanOf p) → Proves p (bound_of p (choices_in plan)) (start_sets p) t → WasSearched p (choices_in plan) (start_sets p) t → IsHandedIn p (choices_in plan)
handed_in p None t whole proves searched = tt
handed_in p (Some plan) t whole proves searched = (whole.legal, valid_of p plan t proves searched)

valid_plan : (p : Instance) (plan : Option PlanChoices) → IfSome plan (IsPlanOf p) → IsHandedIn p (choices_in plan) → IfSome plan (IsValidPlan p)
valid_plan p None whole handed = tt
valid_plan p (Some plan) whole handed = record { whole = whole; valid = handed.1 }

undecided_is : (b : Bool) (budget count : ℕ) (bound : Option ℕ) → Goal.Undecided budget ≡ goal_of b count bound → (b ≡ true) × (budget ≡ count)
undecided_is true budget count bound same = (refl, cc)
undecided_is false budget count None same = absurd (cc)
undecided_is false budget count (Some n) same = absurd (cc)

said_least : (p : Instance) (least : ℕ) (o : Option ℕ) (P : ℕ → Type 0) → Some least ≡ o → IsSomeAnd o P → P least
said_least p least None P same h = absurd h
said_least p least (Some n) P same h = subst P (sym (let e : least ≡ n = cc in e)) h

pub tree_is_true : (p : Instance) → IsInstance p → (budget : ℕ) (found : Found) (t : Tree) → IfSome (plan_in found) (IsPlanOf p) → IsTreeOf p budget found t → IsTrueOf p budget found
tree_is_true p sound budget (Optimal plan) t whole is =
    let handed = handed_in p (Some plan) t whole is.certificate.proves is.searched in
    (whole, (certificates_hold p sound (Some (choices_of plan)) handed (Goal.Optimal (cost_of p (choices_of plan))) t is.certificate).0)
tree_is_true p sound budget Infeasible t whole is = certificates_hold p sound None tt Goal.Infeasible t is.certificate
tree_is_true p sound budget (Undecided best least) t whole is =
    let handed = handed_in p best t whole is.certificate.proves is.searched in
    let opened = undecided_is (has_left (steps_of t)) budget (decisions (steps_of t)) (bound_of p (choices_in best)) is.certificate.shows in
    let fit = (lean_trees_fit p (bound_of p (choices_in best)) (start_sets p) t is.certificate.proves is.lean).more opened.0 in
    record {
      large = omega (arith, fit, opened.1);
      best_is = valid_plan p best whole handed;
      least_is = said_least p least (least_of p (choices_in best) t) _ is.least (certificates_hold p sound (choices_in best) handed (Goal.Undecided budget) t is.certificate);
    }
