-- What is found of the parts of a problem, one after the other, up to the first that is infeasible.
use Rattle.std.specs.Prelude.{◌≡◌, ℕ, ◌+◌, ◌<◌, Bool, true, false, List, [], Option, Some, None, length, map, is_none, slice_index_or, unwrap_or}
use Rattle.std.specs.List.{list_all, position}
use Rattle.cluster.specs.declared.sets.NodeSet.{NodeSet}
use Rattle.partition.specs.Prelude.{no_plan, part_of}
use Rattle.search.specs.declared.found.Found.TheVariants.{Infeasible, Optimal, Undecided}
use Rattle.solver.specs.Prelude.{Found, Instance, IsCertifiedText, IsToStay, IsTrueOf, MayStay, plan_in, PlanChoices}

-- ---- one part

-- what is found of a part, and the text of its certificate
pub record SolvedText : Type 0 where
  pub found : Found
  pub certificate : List ℕ

-- what stands past the end of a list of them
abbrev pub no_text : SolvedText
no_text = record { found = Infeasible; certificate = [] }

-- the text is that of a tree that shows what is found, and that is so of all plans of the part; where staying is a valid plan, it is found
pub record IsSolved (q : Instance) (budget : ℕ) (s : SolvedText) : Type 0 where
  pub certified : IsCertifiedText q budget s.found s.certificate
  pub true_of : IsTrueOf q budget s.found
  pub stays : MayStay q → IsToStay q s.found

-- ---- tests of it

abbrev pub found_none : Found → Bool
found_none (Optimal plan) = false
found_none Infeasible = true
found_none (Undecided best least) = false

abbrev pub found_best : Found → Bool
found_best (Optimal plan) = true
found_best Infeasible = false
found_best (Undecided best least) = false

-- the part is infeasible
abbrev pub is_infeasible : SolvedText → Bool
is_infeasible s = found_none s.found

-- an optimal plan of it was found
abbrev pub is_optimal : SolvedText → Bool
is_optimal s = found_best s.found

-- no plan of it was found
abbrev pub has_no_plan : SolvedText → Bool
has_no_plan s = is_none (plan_in s.found)

-- ---- all parts

abbrev pub solved_at : List SolvedText → ℕ → SolvedText
solved_at solved i = slice_index_or solved i no_text

abbrev pub first_infeasible : List SolvedText → Option ℕ
first_infeasible solved = position is_infeasible solved

abbrev pub first_without_plan : List SolvedText → Option ℕ
first_without_plan solved = position has_no_plan solved

abbrev pub are_optimal : List SolvedText → Bool
are_optimal solved = list_all is_optimal solved

-- the plans that were found
abbrev pub plan_of : SolvedText → PlanChoices
plan_of s = unwrap_or (plan_in s.found) no_plan

abbrev pub plans_of : List SolvedText → List PlanChoices
plans_of solved = map plan_of solved

-- so many parts are solved: all, where none of them is infeasible, and else those up to the first that is
abbrev pub HasEnded : ℕ → List SolvedText → Option ℕ → Type 0
HasEnded count solved None = length solved ≡ count
HasEnded count solved (Some i) = (length solved ≡ i + 1) × (i < count)

-- the first parts are solved, and no more than are needed
pub record AreSolved (p : Instance) (groups : List NodeSet) (budget : ℕ) (solved : List SolvedText) : Type 0 where
  pub each : (i : ℕ) → i < length solved → IsSolved (part_of p groups i) budget (solved_at solved i)
  pub ended : HasEnded (length groups) solved (first_infeasible solved)

-- helping only: so they are with some budget
abbrev pub WereSolved : Instance → List NodeSet → List SolvedText → Type 0
WereSolved p groups solved = (budget : ℕ) × AreSolved p groups budget solved
