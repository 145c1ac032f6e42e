-- What is answered of the whole, by what is found of its parts.
use Rattle.std.specs.Prelude.{◌≡◌, ℕ, List, [], ◌∷◌, true, false, Option, Some, None, length, map}
use Rattle.std.specs.List.{flat_map, range_with_len}
use Rattle.cluster.specs.declared.sets.NodeSet.{NodeSet}
use Rattle.slices.specs.Costs.{IsInfeasible, IsOptimal}
use Rattle.cert_parts.specs.Sections.{section_of, section_text, SectionText}
use Rattle.partition.specs.Prelude.{IsUnion}
use Rattle.search.specs.Prelude.{IsValidPlan}
use Rattle.slices.specs.Plans.{PlanChoices}
use Rattle.solver.specs.Prelude.{choices_of, Instance, IsPlanOf}
use Rattle.part_solver.specs.declared.answer.WholeAnswer.{WholeAnswer}
use Rattle.part_solver.specs.declared.answer.WholeAnswer.TheVariants.{Infeasible, Unmet, Optimal, Valid}
use Rattle.part_solver.specs.Solved.{are_optimal, AreSolved, first_infeasible, first_without_plan, plans_of, solved_at, SolvedText}

-- what is said of the whole: the first part that is infeasible; else the first of which no plan was found; else the union of the plans that were found
abbrev pub IsSaid : Instance → List NodeSet → List SolvedText → WholeAnswer → Type 0
IsSaid p groups solved (Infeasible i) = first_infeasible solved ≡ Some i
IsSaid p groups solved (Unmet i) = (first_infeasible solved ≡ None) × (first_without_plan solved ≡ Some i)
IsSaid p groups solved (Optimal plan) = (are_optimal solved ≡ true) × IsUnion p groups (plans_of solved) plan
IsSaid p groups solved (Valid plan) = (first_without_plan solved ≡ None) × (are_optimal solved ≡ false) × IsUnion p groups (plans_of solved) plan

-- the section of a part: its number, and the text of its certificate
abbrev pub section_at : List SolvedText → ℕ → SectionText
section_at solved i = section_of i (solved_at solved i).certificate

abbrev pub all_sections : List SolvedText → List SectionText
all_sections solved = map (section_at solved) (range_with_len 0 (length solved))

-- the sections that show it: that of one part, or those of all parts, in order
abbrev pub sections_of : WholeAnswer → List SolvedText → List SectionText
sections_of (Infeasible i) solved = section_at solved i ∷ []
sections_of (Unmet i) solved = section_at solved i ∷ []
sections_of (Optimal plan) solved = all_sections solved
sections_of (Valid plan) solved = all_sections solved

abbrev pub text_of : WholeAnswer → List SolvedText → List ℕ
text_of whole solved = flat_map section_text (sections_of whole solved)

-- the parts are solved, this is said of them, and the text has its sections
pub record IsAnswered (p : Instance) (groups : List NodeSet) (budget : ℕ) (whole : WholeAnswer) (text : List ℕ) : Type 0 where
  pub solved : List SolvedText
  pub are_solved : AreSolved p groups budget solved
  pub said : IsSaid p groups solved whole
  pub text_is : text ≡ text_of whole solved

-- the plan of an answer, if it has one
abbrev pub plan_answered : WholeAnswer → Option PlanChoices
plan_answered (Infeasible i) = None
plan_answered (Unmet i) = None
plan_answered (Optimal plan) = Some plan
plan_answered (Valid plan) = Some plan

-- what the answer says of all plans of the whole
abbrev pub IsTrueOfWhole : Instance → WholeAnswer → Type 0
IsTrueOfWhole p (Infeasible i) = IsInfeasible p
IsTrueOfWhole p (Unmet i) = Unit {0}
IsTrueOfWhole p (Optimal plan) = IsPlanOf p plan × IsOptimal p (choices_of plan)
IsTrueOfWhole p (Valid plan) = IsValidPlan p plan
