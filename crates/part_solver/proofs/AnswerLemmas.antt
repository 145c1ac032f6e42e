-- What is answered by solved parts is so of all plans of the whole.
use Rattle.std.proofs.lemmas.List.Quantifiers.{position-Some}
use Rattle.base.proofs.Public.{◌≡◌, ℕ, ◌<◌, ◌≤◌, true, false, List, length, Option, Some, None, slice_index_or, unwrap_or, refl, sym, subst, ◌∙◌, arith, false≢true, get_or-map, true≢false}
use Rattle.cluster.specs.declared.sets.NodeSet.{NodeSet}
use Rattle.slices.specs.Costs.{cost_of, IsInfeasible, IsOptimal}
use Rattle.slices.specs.Plans.{choices_of, PlanChoices}
use Rattle.parts.proofs.Public.{costs_add_up, part_is_infeasible, union_is_optimal}
use Rattle.partition.specs.Prelude.{ArePartPlans, choices_in, IsUnion, no_plan, part_of, Split}
use Rattle.search.specs.Prelude.{IsTrueOf, IsValidPlan, plan_in}
use Rattle.search.specs.declared.found.Found.{Found}
use Rattle.search.specs.declared.found.Found.TheVariants.{Infeasible, Optimal, Undecided}
use Rattle.solver.specs.Prelude.{Instance}
use Rattle.part_solver.specs.declared.answer.WholeAnswer.{WholeAnswer}
use Rattle.part_solver.specs.declared.answer.WholeAnswer.TheVariants as answers
use Rattle.part_solver.specs.Answers.{IsSaid, IsTrueOfWhole}
use Rattle.part_solver.specs.Laws.{AnsweredIsTrue}
use Rattle.part_solver.specs.Solved.{are_optimal, AreSolved, first_infeasible, first_without_plan, found_best, found_none, has_no_plan, HasEnded, is_infeasible, is_optimal, no_text, plan_of, plans_of, solved_at, SolvedText}
use Rattle.part_solver.proofs.SolvedLemmas.{all_pass, each_fails, none_passes}

-- ---- one part

infeasible_of : (q : Instance) (budget : ℕ) (f : Found) → found_none f ≡ true → IsTrueOf q budget f → IsInfeasible q
infeasible_of q budget (Optimal plan) none is = absurd (false≢true none)
infeasible_of q budget Infeasible none is = is
infeasible_of q budget (Undecided best least) none is = absurd (false≢true none)

optimal_of : (q : Instance) (budget : ℕ) (f : Found) → found_best f ≡ true → IsTrueOf q budget f → IsOptimal q (choices_of (unwrap_or (plan_in f) no_plan))
optimal_of q budget (Optimal plan) best is = is.1
optimal_of q budget Infeasible best is = absurd (false≢true best)
optimal_of q budget (Undecided plan least) best is = absurd (false≢true best)

valid_of : (q : Instance) (budget : ℕ) (f : Found) (certificate : List ℕ) → has_no_plan (record { found = f; certificate = certificate }) ≡ false → IsTrueOf q budget f → IsValidPlan q (unwrap_or (plan_in f) no_plan)
valid_of q budget (Optimal plan) certificate some is = record { whole = is.0; valid = is.1.valid }
valid_of q budget Infeasible certificate some is = absurd (true≢false some)
valid_of q budget (Undecided (Some plan) least) certificate some is = is.best_is
valid_of q budget (Undecided None least) certificate some is = absurd (true≢false some)

-- an optimal plan is a plan, and its part is not infeasible
best_is_plan : (s : SolvedText) → is_optimal s ≡ true → has_no_plan s ≡ false
best_is_plan s best = by s.found best
  where
    by : (f : Found) → found_best f ≡ true → has_no_plan (record { found = f; certificate = s.certificate }) ≡ false
    by (Optimal plan) best = refl
    by Infeasible best = absurd (false≢true best)
    by (Undecided plan least) best = absurd (false≢true best)

plan_is_feasible : (s : SolvedText) → has_no_plan s ≡ false → is_infeasible s ≡ false
plan_is_feasible s some = by s.found some
  where
    by : (f : Found) → has_no_plan (record { found = f; certificate = s.certificate }) ≡ false → found_none f ≡ false
    by (Optimal plan) some = refl
    by Infeasible some = absurd (true≢false some)
    by (Undecided plan least) some = refl

-- ---- all parts

module _ (p : Instance) (groups : List NodeSet) (budget : ℕ) (solved : List SolvedText) (are : AreSolved p groups budget solved) where
  -- where plans of all were found, none is infeasible, and all are solved
  pub all_solved : first_without_plan solved ≡ None → length solved ≡ length groups
  all_solved plans =
      subst (λ (o : Option ℕ). HasEnded (length groups) solved o)
      (none_passes is_infeasible solved no_text (λ k l. plan_is_feasible (solved_at solved k) (each_fails has_no_plan solved no_text plans k l)))
      are.ended

  -- the plan of a part
  pub plan_at : (i : ℕ) → i < length solved → slice_index_or (plans_of solved) i no_plan ≡ plan_of (solved_at solved i)
  plan_at i li = get_or-map plan_of solved i no_text no_plan li

  pub part_valid : first_without_plan solved ≡ None → (i : ℕ) → i < length groups → IsValidPlan (part_of p groups i) (slice_index_or (plans_of solved) i no_plan)
  part_valid plans i li =
      let ls : i < length solved = omega (arith, li, all_solved plans) in
      subst (λ (plan : PlanChoices). IsValidPlan (part_of p groups i) plan) (sym (plan_at i ls))
      (valid_of (part_of p groups i) budget (solved_at solved i).found (solved_at solved i).certificate (each_fails has_no_plan solved no_text plans i ls) (are.each i ls).true_of)

  pub are_part_plans : first_without_plan solved ≡ None → ArePartPlans p groups (plans_of solved)
  are_part_plans plans i li = (part_valid plans i li).whole

  pub plans_there : are_optimal solved ≡ true → first_without_plan solved ≡ None
  plans_there best = none_passes has_no_plan solved no_text (λ k l. best_is_plan (solved_at solved k) (all_pass is_optimal solved no_text best k l))

  part_optimal : are_optimal solved ≡ true → (i : ℕ) → i < length groups → IsOptimal (part_of p groups i) (choices_in (plans_of solved) i)
  part_optimal best i li =
      let ls : i < length solved = omega (arith, li, all_solved (plans_there best)) in
      subst (λ (plan : PlanChoices). IsOptimal (part_of p groups i) (choices_of plan)) (sym (plan_at i ls))
      (optimal_of (part_of p groups i) budget (solved_at solved i).found (all_pass is_optimal solved no_text best i ls) (are.each i ls).true_of)

  module _ (split : Split p groups) where
    whole_optimal : are_optimal solved ≡ true → (plan : PlanChoices) → IsUnion p groups (plans_of solved) plan → IsOptimal p (choices_of plan)
    whole_optimal best plan is = record {
      legal = is.plan_is.legal;
      valid = is.valid (λ i li. (part_optimal best i li).valid);
      least = λ other legal valid.
          subst (λ (c : ℕ). c ≤ cost_of p other) (costs_add_up p groups split (choices_in (plans_of solved)) ∙ sym is.cost)
          ((union_is_optimal p groups split (choices_in (plans_of solved)) (part_optimal best)).least other legal valid);
    }

    whole_valid : first_without_plan solved ≡ None → (plan : PlanChoices) → IsUnion p groups (plans_of solved) plan → IsValidPlan p plan
    whole_valid plans plan is = record { whole = is.plan_is; valid = is.valid (λ i li. (part_valid plans i li).valid) }

    whole_infeasible : (i : ℕ) → first_infeasible solved ≡ Some i → IsInfeasible p
    whole_infeasible i first =
        let at = position-Some is_infeasible solved i no_text first in
        let ended : HasEnded (length groups) solved (Some i) = subst (λ (o : Option ℕ). HasEnded (length groups) solved o) first are.ended in
        part_is_infeasible p groups split i ended.1 (infeasible_of (part_of p groups i) budget (solved_at solved i).found at.1 (are.each i at.0).true_of)

    is_true : (whole : WholeAnswer) → IsSaid p groups solved whole → IsTrueOfWhole p whole
    is_true (answers.Infeasible i) said = whole_infeasible i said
    is_true (answers.Unmet i) said = tt
    is_true (answers.Optimal plan) said = (said.1.plan_is, whole_optimal said.0 plan said.1)
    is_true (answers.Valid plan) said = whole_valid said.0 plan said.2

pub answered_is_true : AnsweredIsTrue
answered_is_true p groups split budget whole text a = is_true p groups budget a.solved a.are_solved split whole a.said
