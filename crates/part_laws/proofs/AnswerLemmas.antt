-- The text of an answer by solved parts is accepted.
use Rattle.base.proofs.Public.{All, All-cons, All-map, All-nil, AllPass-from_list_all, cases_lt, fails_before_first, if◌then◌else◌, lt-ltb, position_or_len, ◌≡◌, ◌∙◌, inl, inr, ℕ, zero, suc, ◌+◌, ◌<◌, ◌^◌, Bool, true, false, List, [], ◌∷◌, length, map, flat_map, Option, Some, None, is_none, Result, unwrap_or, IfSome, refl, sym, ap, subst, add-zero, arith, eqb-true, false≢true, get_or-map, get_or-range_with_len, length-range_with_len, list_all, position, position-Some, range_with_len, slice_index_or, zero-add}
use Rattle.std.specs.List.{AllZip}
use Rattle.cluster.specs.declared.sets.NodeSet.{NodeSet}
use Rattle.catalogue.specs.Prelude.{Instance, IsInstance}
use Rattle.slices.specs.Prelude.{Choices, choices_of, cost_of, IsPlanOf, IsValid, vm}
use Rattle.slices.specs.Plans.{PlanChoices}
use Rattle.parts.specs.Laws.{AreValid, Split}
use Rattle.parts.specs.Parts.{part_of}
use Rattle.parts.specs.Unions.{Stays, StaysIn}
use Rattle.parts.proofs.Public.{keeps_groups, part_is_sound}
use Rattle.partition.specs.Plans.{choices_in, IsPartPlan, IsUnion, no_plan}
use Rattle.cert_parts.specs.Laws.{IsBody, IsWritten}
use Rattle.cert_parts.specs.Sections.{section_text, SectionText}
use Rattle.cert_parts.proofs.Public.{certificates_are_bodies, written_is_cut}
use Rattle.cert_text.specs.Texts.{IsGoal}
use Rattle.cert_check.proofs.Public.{cost_fits}
use Rattle.cert_check.specs.Laws.{IsAccepted as IsPartAccepted, IsYesUnlessOutside as IsYesOfPart}
use Rattle.cert_check.specs.Verdicts.{CheckGives}
use Rattle.cert_check.specs.declared.verdict.CheckFault.{CheckFault}
use Rattle.cert_check.specs.declared.verdict.Verdict.{Verdict}
use Rattle.solver.specs.Prelude.{choices_handed, Found, goal_in, Infeasible, IsTrueOf, least_in, Optimal, plan_in, steps_of, Undecided}
use Rattle.solver.proofs.Public.{certified_is_accepted, whole_plan}
use Rattle.trees.specs.declared.steps.Goal.{Goal}
use Rattle.part_solver.specs.Answers.{all_sections, section_at}
use Rattle.part_solver.specs.Solved.{are_optimal, AreSolved, first_infeasible, first_without_plan, found_best, found_none, has_no_plan, HasEnded, is_infeasible, is_optimal, no_text, plan_of, plans_of, solved_at, SolvedText}
use Rattle.part_solver.specs.declared.answer.WholeAnswer.TheVariants as answer
use Rattle.part_check.specs.declared.verdict.WholeGoal.TheVariants.{Infeasible as WholeInfeasible, Optimal as WholeOptimal, Undecided as WholeUndecided}
use Rattle.part_laws.specs.Laws.{AnsweredIsAccepted, TextIsAccepted}
use Rattle.part_check.specs.Verdicts.{goal_of_all, is_optimal_goal, SectionGives}
use Rattle.part_laws.proofs.AcceptLemmas.{all_accepted, HasOneVerdict}

-- ---- lists

-- the first numbers, each with what it gives
zip_ranges : (IsSo : SectionText → Goal → Type 0) (section : ℕ → SectionText) (goal : ℕ → Goal) (first n : ℕ) → ((i : ℕ) → i < first + n → IsSo (section i) (goal i)) → AllZip IsSo (map section (range_with_len first n)) (map goal (range_with_len first n))
zip_ranges IsSo section goal first zero so = tt
zip_ranges IsSo section goal first (suc n) so = (so first (omega arith), zip_ranges IsSo section goal (first + 1) n (λ i l. so i (omega (arith, l))))

own_numbers : (section : ℕ → SectionText) (first n : ℕ) → ((i : ℕ) → (section i).part ≡ i) → map (λ s. s.part) (map section (range_with_len first n)) ≡ range_with_len first n
own_numbers section first zero own = refl
own_numbers section first (suc n) own = ap (λ (x : ℕ). x ∷ map (λ s. s.part) (map section (range_with_len (first + 1) n))) (own first) ∙ ap (λ (l : List ℕ). first ∷ l) (own_numbers section (first + 1) n own)

-- a test of a list's items, and of what stands for each of them
same_tests : {A : Type 0} (item : A → Bool) (other : Goal → Bool) (goal : ℕ → Goal) (d : A) (xs : List A) (first : ℕ) → ((i : ℕ) → i < length xs → other (goal (first + i)) ≡ item (slice_index_or xs i d)) → list_all other (map goal (range_with_len first (length xs))) ≡ list_all item xs
same_tests item other goal d [] first same = refl
same_tests item other goal d (x ∷ xs) first same =
    let here : other (goal first) ≡ item x = ap (λ (i : ℕ). other (goal i)) (sym (add-zero first)) ∙ same 0 (omega arith) in
    let rest : list_all other (map goal (range_with_len (first + 1) (length xs))) ≡ list_all item xs =
    same_tests item other goal d xs (first + 1) (λ i l. ap (λ (k : ℕ). other (goal k)) (omega arith) ∙ same (suc i) (omega (arith, l))) in
    rw (here, rest) refl

-- none passes where none is the first that does
none_passes : {A : Type 0} (test : A → Bool) (xs : List A) → position test xs ≡ None → (i : ℕ) (d : A) → i < length xs → test (slice_index_or xs i d) ≡ false
none_passes test xs none i d within =
    elim (cases_lt (position_or_len test xs) (length xs)) [
      | inl low ↦
          let there : position test xs ≡ Some (position_or_len test xs) = rw (lt-ltb (position_or_len test xs) (length xs) low) refl in
          absurd (some_none (position_or_len test xs) (sym there ∙ none))
      | inr past ↦ fails_before_first test xs i d (omega (arith, past, within))
    ]
  where
    some_none : (x : ℕ) → Some x ≡ None → ⊥
    some_none x same = cc

-- and the other way round
passes_none : {A : Type 0} (test : A → Bool) (xs : List A) (d : A) → ((i : ℕ) → i < length xs → test (slice_index_or xs i d) ≡ false) → position test xs ≡ None
passes_none test xs d fails = by (position test xs) refl
  where
    by : (o : Option ℕ) → position test xs ≡ o → position test xs ≡ None
    by None is = is
    by (Some i) is =
        let there = position-Some test xs i d is in
        absurd (false≢true (sym (fails i there.0) ∙ there.1))

-- ---- what is found of a part

found_is_none : (found : Found) → found_none found ≡ true → found ≡ Infeasible
found_is_none (Optimal plan) is = absurd (false≢true is)
found_is_none Infeasible is = refl
found_is_none (Undecided best least) is = absurd (false≢true is)

best_is_not_none : (found : Found) → found_best found ≡ true → found_none found ≡ false
best_is_not_none (Optimal plan) is = refl
best_is_not_none Infeasible is = absurd (false≢true is)
best_is_not_none (Undecided best least) is = refl

best_has_plan : (found : Found) → found_best found ≡ true → is_none (plan_in found) ≡ false
best_has_plan (Optimal plan) is = refl
best_has_plan Infeasible is = absurd (false≢true is)
best_has_plan (Undecided best least) is = absurd (false≢true is)

planned_is_not_none : (found : Found) → is_none (plan_in found) ≡ false → found_none found ≡ false
planned_is_not_none (Optimal plan) is = refl
planned_is_not_none Infeasible is = absurd (false≢true (sym is))
planned_is_not_none (Undecided best least) is = refl

no_plan_is : (plan : Option PlanChoices) → is_none plan ≡ true → plan ≡ None
no_plan_is None is = refl
no_plan_is (Some plan) is = absurd (false≢true is)

some_plan_is : (plan : Option PlanChoices) → is_none plan ≡ false → plan ≡ Some (unwrap_or plan no_plan)
some_plan_is None is = absurd (false≢true (sym is))
some_plan_is (Some plan) is = refl

-- what the goal of one part shows without a plan
unmet_shows : (p q : Instance) (budget : ℕ) (found : Found) → found_none found ≡ false → is_none (plan_in found) ≡ true → goal_of_all p None (goal_in q budget found ∷ []) ≡ WholeUndecided
unmet_shows p q budget (Optimal plan) some none = absurd (false≢true none)
unmet_shows p q budget Infeasible some none = absurd (false≢true (sym some))
unmet_shows p q budget (Undecided best least) some none = refl

is_best : (q : Instance) (budget : ℕ) (found : Found) → is_optimal_goal (goal_in q budget found) ≡ found_best found
is_best q budget (Optimal plan) = refl
is_best q budget Infeasible = refl
is_best q budget (Undecided best least) = refl

valid_plan : (q : Instance) (budget : ℕ) (found : Found) → IsTrueOf q budget found → IfSome (plan_in found) (λ plan. IsValid q (choices_of plan))
valid_plan q budget (Optimal plan) is = is.1.valid
valid_plan q budget Infeasible is = tt
valid_plan q budget (Undecided None least) is = tt
valid_plan q budget (Undecided (Some plan) least) is = is.best_is.valid

-- ---- its goal can be written

goal_fits : (q : Instance) → IsInstance q → (budget : ℕ) → budget < 2 ^ 64 → (found : Found) → IsTrueOf q budget found → IsGoal (goal_in q budget found)
goal_fits q is budget few (Optimal plan) true_of = cost_fits q is (choices_of plan) true_of.0.legal
goal_fits q is budget few Infeasible true_of = tt
goal_fits q is budget few (Undecided best least) true_of = few

-- ---- the solved parts

module _ (p : Instance) (groups : List NodeSet) (split : Split p groups) (few_groups : length groups < 2 ^ 64) (budget : ℕ) (few : budget < 2 ^ 64) (solved : List SolvedText) (are : AreSolved p groups budget solved) where
  abbrev found_at : ℕ → Found
  found_at i = (solved_at solved i).found

  abbrev goal_at : ℕ → Goal
  goal_at i = goal_in (part_of p groups i) budget (found_at i)

  accepted_at : (i : ℕ) → i < length solved → IsPartAccepted (part_of p groups i) (choices_handed (plan_in (found_at i))) false (solved_at solved i).certificate (goal_at i) (least_in (found_at i))
  accepted_at i li = certified_is_accepted (part_of p groups i) (part_is_sound p groups split i) budget few (found_at i) (are.each i li).true_of (solved_at solved i).certificate (are.each i li).certified false

  body_at : (i : ℕ) → i < length solved → IsBody (solved_at solved i).certificate
  body_at i li =
      let shown = (are.each i li).certified in
      let sound = part_is_sound p groups split i in
      subst IsBody (sym shown.whole) (certificates_are_bodies (part_of p groups i) sound (steps_of shown.tree) shown.tree_is.writable (goal_at i) (goal_fits (part_of p groups i) sound budget few (found_at i) (are.each i li).true_of))

  written_at : (i : ℕ) → i < length solved → i < length groups → IsWritten (section_at solved i)
  written_at i li there = record { number = omega (arith, there, few_groups); body = body_at i li }

  -- ---- one part, without a plan

  verdict_alone : (i : ℕ) → i < length solved → plan_in (found_at i) ≡ None → HasOneVerdict p groups None (section_at solved i) (goal_at i)
  verdict_alone i li none =
      let accepted = subst (λ (plan : Option PlanChoices). IsPartAccepted (part_of p groups i) (choices_handed plan) false (solved_at solved i).certificate (goal_at i) (least_in (found_at i))) none (accepted_at i li) in
      record { least = least_in (found_at i); yes = accepted.yes; alone = accepted.alone }

  alone_accepted : (i : ℕ) → i < length solved → i < length groups → is_none (plan_in (found_at i)) ≡ true → TextIsAccepted p groups None (flat_map section_text (section_at solved i ∷ [])) (goal_of_all p None (goal_at i ∷ []))
  alone_accepted i li there none =
      let sections = section_at solved i ∷ [] in
      all_accepted p groups None (flat_map section_text sections) sections
      (record {
        cut = written_is_cut sections (All-cons IsWritten (section_at solved i) [] (written_at i li there) (All-nil IsWritten));
        wanted = record { section = section_at solved i; alone = refl; there = there };
      })
      (goal_at i ∷ []) (verdict_alone i li (no_plan_is (plan_in (found_at i)) none), tt)

  infeasible_accepted : (i : ℕ) → first_infeasible solved ≡ Some i → TextIsAccepted p groups None (flat_map section_text (section_at solved i ∷ [])) WholeInfeasible
  infeasible_accepted i first =
      let at = position-Some is_infeasible solved i no_text first in
      let ended = subst (HasEnded (length groups) solved) first are.ended in
      let found = found_is_none (found_at i) at.1 in
      let none : is_none (plan_in (found_at i)) ≡ true = ap (λ (f : Found). is_none (plan_in f)) found in
      let shows : goal_of_all p None (goal_at i ∷ []) ≡ WholeInfeasible = ap (λ (f : Found). goal_of_all p None (goal_in (part_of p groups i) budget f ∷ [])) found in
      subst (TextIsAccepted p groups None (flat_map section_text (section_at solved i ∷ []))) shows (alone_accepted i at.0 ended.1 none)

  -- no part is infeasible
  all_solved : first_infeasible solved ≡ None → length solved ≡ length groups
  all_solved none = subst (HasEnded (length groups) solved) none are.ended

  unmet_accepted : (i : ℕ) → first_infeasible solved ≡ None → first_without_plan solved ≡ Some i → TextIsAccepted p groups None (flat_map section_text (section_at solved i ∷ [])) WholeUndecided
  unmet_accepted i feasible first =
      let at = position-Some has_no_plan solved i no_text first in
      let some = none_passes is_infeasible solved feasible i no_text at.0 in
      let there : i < length groups = omega (arith, at.0, all_solved feasible) in
      subst (TextIsAccepted p groups None (flat_map section_text (section_at solved i ∷ []))) (unmet_shows p (part_of p groups i) budget (found_at i) some at.1) (alone_accepted i at.0 there at.1)

  -- ---- all parts, with the union of their plans

  module _ (whole : PlanChoices) (union : IsUnion p groups (plans_of solved) whole) (feasible : first_infeasible solved ≡ None) (have : (i : ℕ) → i < length solved → is_none (plan_in (found_at i)) ≡ false) where
    own_at : ℕ → PlanChoices
    own_at i = plan_of (solved_at solved i)

    listed : (i : ℕ) → i < length groups → i < length solved
    listed i li = omega (arith, li, all_solved feasible)

    plan_at : (i : ℕ) → i < length groups → plan_in (found_at i) ≡ Some (own_at i)
    unfolding own_at
    plan_at i li = some_plan_is (plan_in (found_at i)) (have i (listed i li))

    choices_at : (i : ℕ) → i < length groups → choices_in (plans_of solved) i ≡ choices_of (own_at i)
    unfolding own_at
    choices_at i li = ap choices_of (get_or-map plan_of solved i no_text no_plan (listed i li))

    own_whole : (i : ℕ) → i < length groups → IsPlanOf (part_of p groups i) (own_at i)
    own_whole i li = subst (λ (plan : Option PlanChoices). IfSome plan (IsPlanOf (part_of p groups i))) (plan_at i li) (whole_plan (part_of p groups i) budget (found_at i) (are.each i (listed i li)).true_of)

    own_valid : AreValid p groups (choices_in (plans_of solved))
    own_valid i li =
        let valid : IsValid (part_of p groups i) (choices_of (own_at i)) = subst (λ (plan : Option PlanChoices). IfSome plan (λ q. IsValid (part_of p groups i) (choices_of q))) (plan_at i li) (valid_plan (part_of p groups i) budget (found_at i) (are.each i (listed i li)).true_of) in
        subst (λ (c : Choices). IsValid (part_of p groups i) c) (sym (choices_at i li)) valid

    all_stay : Stays p groups (choices_of whole)
    all_stay = keeps_groups p groups split (choices_of whole) union.plan_is.legal (union.valid own_valid)

    own_is : (i : ℕ) → i < length groups → IsPartPlan p groups i (choices_of whole) (own_at i)
    own_is i li = record {
      stays = λ v low mine. subst (λ (j : ℕ). StaysIn groups j (choices_of whole (vm v))) (eqb-true _ _ mine) (all_stay v low);
      plan_is = own_whole i li;
      choices = λ e. sym (union.parts i li e ∙ ap (λ (c : Choices). c e) (choices_at i li));
    }

    verdict_planned : (i : ℕ) → i < length groups → HasOneVerdict p groups (Some whole) (section_at solved i) (goal_at i)
    verdict_planned i li = record { least = least_in (found_at i); yes = inr (record { own = own_at i; own_is = own_is i li; gives = accepted.yes }); alone = alone }
      where
        accepted : IsPartAccepted (part_of p groups i) (Some (choices_of (own_at i))) false (solved_at solved i).certificate (goal_at i) (least_in (found_at i))
        accepted = subst (λ (plan : Option PlanChoices). IsPartAccepted (part_of p groups i) (choices_handed plan) false (solved_at solved i).certificate (goal_at i) (least_in (found_at i))) (plan_at i li) (accepted_at i (listed i li))

        same_choices : (other : PlanChoices) → IsPartPlan p groups i (choices_of whole) other → choices_of other ≡ choices_of (own_at i)
        same_choices other is = λ j e. (is.choices e ∙ sym ((own_is i li).choices e)) j

        alone : (given : Result Verdict CheckFault) → SectionGives p groups (Some whole) (section_at solved i) given → IsYesOfPart (goal_at i) (least_in (found_at i)) given
        alone given (inl left) = absurd (left.leaves.leaves ((own_is i li).stays left.leaves.machine left.leaves.within left.leaves.of_part))
        alone given (inr checked) =
            accepted.alone given (subst (λ (c : Choices). CheckGives (part_of p groups i) (Some c) false (solved_at solved i).certificate given) (same_choices checked.own checked.own_is) checked.gives)

    goals : List Goal
    goals = map goal_at (range_with_len 0 (length solved))

    all_goals : goal_of_all p (Some whole) goals ≡ (if are_optimal solved then WholeOptimal (cost_of p (choices_of whole)) else WholeUndecided)
    unfolding goals
    all_goals = ap (λ (b : Bool). if b then WholeOptimal (cost_of p (choices_of whole)) else WholeUndecided) (same_tests is_optimal is_optimal_goal goal_at no_text solved 0 (λ i li. ap (λ (k : ℕ). is_optimal_goal (goal_at k)) (zero-add i) ∙ is_best (part_of p groups i) budget (found_at i)))

    planned_accepted : TextIsAccepted p groups (Some whole) (flat_map section_text (all_sections solved)) (if are_optimal solved then WholeOptimal (cost_of p (choices_of whole)) else WholeUndecided)
    unfolding goals
    planned_accepted =
        subst (TextIsAccepted p groups (Some whole) (flat_map section_text (all_sections solved))) all_goals
        (all_accepted p groups (Some whole) (flat_map section_text (all_sections solved)) (all_sections solved)
        (record {
          cut = written_is_cut (all_sections solved) (All-map IsWritten (section_at solved) (range_with_len 0 (length solved)) written);
          wanted = own_numbers (section_at solved) 0 (length solved) (λ i. refl) ∙ ap (range_with_len 0) (all_solved feasible);
        })
        goals (zip_ranges (HasOneVerdict p groups (Some whole)) (section_at solved) goal_at 0 (length solved) (λ i l. verdict_planned i (omega (arith, l, all_solved feasible)))))
      where
        written : All (λ i. IsWritten (section_at solved i)) (range_with_len 0 (length solved))
        written k d within =
            let low : k < length solved = omega (arith, within, length-range_with_len 0 (length solved)) in
            subst (λ (i : ℕ). IsWritten (section_at solved i)) (sym (get_or-range_with_len 0 (length solved) k d low ∙ zero-add k)) (written_at k low (omega (arith, low, all_solved feasible)))

  -- ---- both answers with a plan

  optimal_accepted : (whole : PlanChoices) → are_optimal solved ≡ true → IsUnion p groups (plans_of solved) whole → TextIsAccepted p groups (Some whole) (flat_map section_text (all_sections solved)) (WholeOptimal (cost_of p (choices_of whole)))
  optimal_accepted whole all union =
      let best = AllPass-from_list_all is_optimal solved all in
      let feasible = passes_none is_infeasible solved no_text (λ i li. best_is_not_none (found_at i) (best i no_text li)) in
      rw all at (planned_accepted whole union feasible (λ i li. best_has_plan (found_at i) (best i no_text li)))

  valid_accepted : (whole : PlanChoices) → first_without_plan solved ≡ None → are_optimal solved ≡ false → IsUnion p groups (plans_of solved) whole → TextIsAccepted p groups (Some whole) (flat_map section_text (all_sections solved)) WholeUndecided
  valid_accepted whole planned some union =
      let have = none_passes has_no_plan solved planned in
      let feasible = passes_none is_infeasible solved no_text (λ i li. planned_is_not_none (found_at i) (have i no_text li)) in
      rw some at (planned_accepted whole union feasible (λ i li. have i no_text li))

pub answered_is_accepted : AnsweredIsAccepted
answered_is_accepted p groups split few_groups budget few (answer.Infeasible i) text is =
    subst (λ (t : List ℕ). TextIsAccepted p groups None t WholeInfeasible) (sym is.text_is) (infeasible_accepted p groups split few_groups budget few is.solved is.are_solved i is.said)
answered_is_accepted p groups split few_groups budget few (answer.Unmet i) text is =
    subst (λ (t : List ℕ). TextIsAccepted p groups None t WholeUndecided) (sym is.text_is) (unmet_accepted p groups split few_groups budget few is.solved is.are_solved i is.said.0 is.said.1)
answered_is_accepted p groups split few_groups budget few (answer.Optimal plan) text is =
    subst (λ (t : List ℕ). TextIsAccepted p groups (Some plan) t (WholeOptimal (cost_of p (choices_of plan)))) (sym is.text_is) (optimal_accepted p groups split few_groups budget few is.solved is.are_solved plan is.said.0 is.said.1)
answered_is_accepted p groups split few_groups budget few (answer.Valid plan) text is =
    subst (λ (t : List ℕ). TextIsAccepted p groups (Some plan) t WholeUndecided) (sym is.text_is) (valid_accepted p groups split few_groups budget few is.solved is.are_solved plan is.said.0 is.said.1 is.said.2)
