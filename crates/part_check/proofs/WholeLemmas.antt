-- What all goals together say of the whole.
use Rattle.base.proofs.Public.{Bor, ◌≡◌, ◌∙◌, inl, inr, ℕ, zero, suc, ◌+◌, ◌<◌, ◌≤◌, Bool, true, List, [], ◌∷◌, length, filter, Option, Some, None, IfSome, slice_index_or, unwrap_or, refl, sym, ap, subst, arith, cases_Bool, cases_eq, cases_lt, eq-eqb, false≢true, get_or_past, length-append, list_all, option_copied}
use Rattle.std.specs.List.{AllZip}
use Rattle.cluster.specs.declared.choices.Choice.{Choice}
use Rattle.cluster.specs.declared.choices.Choice.TheVariants.{Idle}
use Rattle.cluster.specs.declared.ids.Element.{Element}
use Rattle.cluster.specs.declared.ids.Element.TheVariants.{Vm, Node as TheNode}
use Rattle.cluster.specs.declared.sets.NodeSet.{NodeSet}
use Rattle.catalogue.specs.Prelude.{Instance}
use Rattle.slices.specs.Prelude.{Choices, choices_of, IsInfeasible, IsOptimal, IsPlanOf, machine_count, node, node_count, vm}
use Rattle.slices.specs.Plans.{PlanChoices}
use Rattle.parts.specs.Cuts.{renumbered_choice}
use Rattle.parts.specs.Groups.{in_group, machine_group, node_group}
use Rattle.parts.specs.Laws.{Split}
use Rattle.parts.specs.Numbers.{new_number, old_number, passing}
use Rattle.parts.specs.Parts.{in_part, part_of}
use Rattle.parts.specs.Unions.{part_choices, Stays, union_of, whole_choice}
use Rattle.parts.proofs.Public.{group_in, length-passing, part_is_infeasible, passing_more, staying_plan_is_union, union_is_optimal}
use Rattle.cert_parts.specs.Sections.{SectionText}
use Rattle.trees.specs.declared.steps.Goal.{Goal}
use Rattle.trees.specs.declared.steps.Goal.TheVariants as part_goal
use Rattle.part_check.specs.declared.verdict.PartsVerdict.TheVariants.{Yes}
use Rattle.part_check.specs.Judging.{HasOptimalPart, PartGoalIsSo}
use Rattle.part_check.specs.Verdicts.{AreWanted, goal_of_all, is_infeasible_goal, is_optimal_goal, IsSoundOfWhole}
use Rattle.part_check.proofs.WantedLemmas.{are_all, part_at}

-- ---- past the last machine and node all is Idle

-- as many pass before a number as before a lower one, or more
passing_grows : (test : ℕ → Bool) (count x : ℕ) → count ≤ x → length (passing test count) ≤ length (passing test x)
passing_grows test count zero past = let none : count ≡ 0 = omega arith in rw none (omega arith)
passing_grows test count (suc x) past =
    elim (cases_eq count (suc x)) [
      | inl same ↦ rw same (omega arith)
      | inr other ↦ let before = passing_grows test count x (omega (arith, past, other)) in omega (arith, before, ap length (passing_more test x), length-append (passing test x) (filter test (x ∷ [])))
    ]

idle_past : (test : ℕ → Bool) (count x : ℕ) (number : ℕ → ℕ) (choices : List Choice) → length choices ≡ count → count ≤ x → renumbered_choice number (slice_index_or choices (old_number test count (new_number test x)) Idle) ≡ Idle
idle_past test count x number choices long past =
    let grows = passing_grows test count x past in
    let old : old_number test count (new_number test x) ≡ count + new_number test x = get_or_past (passing test count) (new_number test x) (count + new_number test x) (omega (arith, grows, length-passing test x)) in
    ap (renumbered_choice number) (get_or_past choices (old_number test count (new_number test x)) Idle (omega (arith, old, long)))

module _ (p : Instance) (groups : List NodeSet) (split : Split p groups) (plan : PlanChoices) (whole : IsPlanOf p plan) where
  abbrev own_parts : ℕ → Choices
  own_parts i = part_choices p groups i (choices_of plan)

  abbrev node_home : ℕ → ℕ
  node_home n = unwrap_or (node_group groups n) 0

  -- a plan that keeps each machine in its group is the union of its parts, also past the last element
  union_is : Stays p groups (choices_of plan) → (e : Element) → union_of p groups own_parts e ≡ choices_of plan e
  unfolding part_choices union_of
  union_is stays (Vm v) = elim (cases_lt v.0 (machine_count p)) [
    | inl low ↦ staying_plan_is_union p groups split (choices_of plan) whole.legal stays (vm v.0) low
    | inr past ↦
        ap (whole_choice p groups (machine_group p groups v.0)) (idle_past (in_part p groups (machine_group p groups v.0)) (machine_count p) v.0 (new_number (in_group groups (machine_group p groups v.0))) plan.machines whole.machines past)
        ∙ sym (get_or_past plan.machines v.0 Idle (omega (arith, past, whole.machines)))
  ]
  union_is stays (TheNode n) = elim (cases_lt n.0 (node_count p)) [
    | inl low ↦ staying_plan_is_union p groups split (choices_of plan) whole.legal stays (node n.0) low
    | inr past ↦
        ap (whole_choice p groups (node_home n.0)) (idle_past (in_group groups (node_home n.0)) (node_count p) n.0 (new_number (in_group groups (node_home n.0))) plan.nodes whole.nodes past)
        ∙ sym (get_or_past plan.nodes n.0 Idle (omega (arith, past, whole.nodes)))
  ]

  -- ---- optimal parts

  module _ (each : (i : ℕ) → i < length groups → HasOptimalPart p groups (choices_of plan) i) where
    all_stay : Stays p groups (choices_of plan)
    all_stay v low = (each (machine_group p groups v) (group_in p groups split v)).own_is.stays v low (eq-eqb (machine_group p groups v) (machine_group p groups v) refl)

    own_optimal : (i : ℕ) → i < length groups → IsOptimal (part_of p groups i) (own_parts i)
    own_optimal i li =
        let has = each i li in
        let same : choices_of has.own ≡ own_parts i = λ j e. has.own_is.choices e j in
        subst (λ (c : Choices). IsOptimal (part_of p groups i) c) same has.optimal

    pub whole_optimal : IsOptimal p (choices_of plan)
    whole_optimal =
        let same : union_of p groups own_parts ≡ choices_of plan = λ j e. union_is all_stay e j in
        subst (λ (c : Choices). IsOptimal p c) same (union_is_optimal p groups split own_parts own_optimal)

-- ---- the goals of all sections

-- the goals are all optimal, so each section's part is
each_optimal : (p : Instance) (groups : List NodeSet) (plan : PlanChoices) (sections : List SectionText) (goals : List Goal) → AllZip (λ s goal. PartGoalIsSo p groups (Some plan) s.part goal) sections goals → list_all is_optimal_goal goals ≡ true → (k : ℕ) (d : SectionText) → k < length sections → HasOptimalPart p groups (choices_of plan) (slice_index_or sections k d).part
each_optimal p groups plan [] goals so all k d within = absurd (omega (arith, within))
each_optimal p groups plan (s ∷ sections) [] so all k d within = absurd so
each_optimal p groups plan (s ∷ sections) (part_goal.Optimal cost ∷ goals) so all zero d within = so.0
each_optimal p groups plan (s ∷ sections) (part_goal.Optimal cost ∷ goals) so all (suc k) d within = each_optimal p groups plan sections goals so.1 all k d (omega (arith, within))
each_optimal p groups plan (s ∷ sections) (part_goal.Infeasible ∷ goals) so all k d within = absurd (false≢true all)
each_optimal p groups plan (s ∷ sections) (part_goal.Undecided count ∷ goals) so all k d within = absurd (false≢true all)

one_infeasible : (p : Instance) (groups : List NodeSet) (s : SectionText) (goals : List Goal) → AllZip (λ s goal. PartGoalIsSo p groups None s.part goal) (s ∷ []) goals → list_all is_infeasible_goal goals ≡ true → IsInfeasible (part_of p groups s.part)
one_infeasible p groups s [] so all = absurd so
one_infeasible p groups s (part_goal.Optimal cost ∷ goals) so all = absurd (false≢true all)
one_infeasible p groups s (part_goal.Infeasible ∷ goals) so all = so.0
one_infeasible p groups s (part_goal.Undecided count ∷ goals) so all = absurd (false≢true all)

pub whole_sound : (p : Instance) (groups : List NodeSet) → Split p groups → (plan : Option PlanChoices) → IfSome plan (IsPlanOf p) → (sections : List SectionText) → AreWanted groups plan sections → (goals : List Goal) → AllZip (λ s goal. PartGoalIsSo p groups plan s.part goal) sections goals → IsSoundOfWhole p plan (Yes (goal_of_all p plan goals))
whole_sound p groups split (Some plan) whole sections wanted goals so =
    elim (cases_Bool (list_all is_optimal_goal goals)) [
      | inl all ↦ rw all (whole_optimal p groups split plan whole (each all), refl)
      | inr some ↦ rw some tt
    ]
  where
    none_given : SectionText
    none_given = record { part = 0; body = [] }

    each : list_all is_optimal_goal goals ≡ true → (i : ℕ) → i < length groups → HasOptimalPart p groups (choices_of plan) i
    each all i li =
        let long = (are_all (length groups) sections wanted).0 in
        let within : i < length sections = omega (arith, li, long) in
        subst (λ (x : ℕ). HasOptimalPart p groups (choices_of plan) x) (part_at (length groups) sections wanted i none_given within) (each_optimal p groups plan sections goals so all i none_given within)
whole_sound p groups split None whole sections wanted goals so =
    elim (cases_Bool (list_all is_infeasible_goal goals)) [
      | inl all ↦ rw all (part_is_infeasible p groups split wanted.section.part wanted.there (one_infeasible p groups wanted.section goals (subst (λ (l : List SectionText). AllZip (λ s goal. PartGoalIsSo p groups None s.part goal) l goals) wanted.alone so) all))
      | inr some ↦ rw some tt
    ]

-- the plan that is handed in, behind its reference
pub handed_plan : {A : Type 0} (IsSo : A → Type 0) (plan : Option (Bor A)) → IfSome plan (λ a. IsSo a.now) → IfSome (option_copied plan) IsSo
handed_plan IsSo None is = tt
handed_plan IsSo (Some plan) is = is
