-- The verdict on the certificates of the parts of a problem: the sections are taken in order, and the first that does not say yes gives it.
use Rattle.std.specs.Prelude.{◌≡◌, ◌⊎◌, ℕ, ◌<◌, Bool, true, false, List, [], ◌∷◌, ◌++◌, length, map, if◌then◌else◌, Option, Some, None, Result, Ok, Err, IsSomeAnd}
use Rattle.std.specs.List.{AllZip, list_all, range_with_len}
use Rattle.cluster.specs.declared.sets.NodeSet.{NodeSet}
use Rattle.catalogue.specs.Prelude.{Instance}
use Rattle.slices.specs.Prelude.{choices_of, cost_of, IsInfeasible, IsOptimal}
use Rattle.slices.specs.Plans.{PlanChoices}
use Rattle.parts.specs.Parts.{part_of}
use Rattle.partition.specs.Plans.{IsPartPlan, PartLeaves}
use Rattle.cert_parts.specs.Sections.{IsCutInto, section_of, SectionText}
use Rattle.trees.specs.declared.steps.Goal.{Goal}
use Rattle.trees.specs.declared.steps.Goal.TheVariants as part_goal
use Rattle.cert_model.specs.declared.why.Why.TheVariants.{Plan}
use Rattle.cert_check.specs.Verdicts.{CheckGives}
use Rattle.cert_check.specs.declared.verdict.CheckFault.{CheckFault}
use Rattle.cert_check.specs.declared.verdict.CheckFault.TheVariants as check_fault
use Rattle.cert_check.specs.declared.verdict.Verdict.{Verdict}
use Rattle.cert_check.specs.declared.verdict.Verdict.TheVariants as said
use Rattle.part_check.specs.declared.verdict.PartsFault.{PartsFault}
use Rattle.part_check.specs.declared.verdict.PartsFault.TheVariants.{Line, Memory}
use Rattle.part_check.specs.declared.verdict.PartsVerdict.{PartsVerdict}
use Rattle.part_check.specs.declared.verdict.PartsVerdict.TheVariants.{Yes, NoSections, No}
use Rattle.part_check.specs.declared.verdict.WholeGoal.{WholeGoal}
use Rattle.part_check.specs.declared.verdict.WholeGoal.TheVariants.{Optimal, Infeasible, Undecided}

-- ---- the sections that are wanted

-- those of all parts in order, each once
abbrev pub AreAllParts : ℕ → List SectionText → Type 0
AreAllParts count sections = map (λ s. s.part) sections ≡ range_with_len 0 count

-- one, of a part that there is
pub record IsOnePart (count : ℕ) (sections : List SectionText) : Type 0 where
  pub section : SectionText
  pub alone : sections ≡ section ∷ []
  pub there : section.part < count

-- with a plan all of them, and without one a single one
abbrev pub AreWanted : List NodeSet → Option PlanChoices → List SectionText → Type 0
AreWanted groups (Some plan) sections = AreAllParts (length groups) sections
AreWanted groups None sections = IsOnePart (length groups) sections

-- the text is cut into these, and they are wanted
pub record HasSections (groups : List NodeSet) (plan : Option PlanChoices) (text : List ℕ) (sections : List SectionText) : Type 0 where
  pub cut : IsCutInto text sections
  pub wanted : AreWanted groups plan sections

-- ---- one section

-- a machine of the part leaves its group: this is refused before the first line
pub record MachineLeaves (p : Instance) (groups : List NodeSet) (plan : PlanChoices) (s : SectionText) (given : Result Verdict CheckFault) : Type 0 where
  pub leaves : PartLeaves p groups s.part (choices_of plan)
  pub refused : given ≡ Ok (said.No 0 Plan)

-- the section is checked for the plan of its part
pub record IsChecked (p : Instance) (groups : List NodeSet) (plan : PlanChoices) (s : SectionText) (given : Result Verdict CheckFault) : Type 0 where
  pub own : PlanChoices
  pub own_is : IsPartPlan p groups s.part (choices_of plan) own
  pub gives : CheckGives (part_of p groups s.part) (Some (choices_of own)) false s.body given

-- what the check of a section gives, not strictly: for its part, and for the plan of its part or for none
abbrev pub SectionGives : Instance → List NodeSet → Option PlanChoices → SectionText → Result Verdict CheckFault → Type 0
SectionGives p groups (Some plan) s given = MachineLeaves p groups plan s given ⊎ IsChecked p groups plan s given
SectionGives p groups None s given = CheckGives (part_of p groups s.part) None false s.body given

-- it says yes to this goal
abbrev pub SaysYes : Instance → List NodeSet → Option PlanChoices → SectionText → Goal → Type 0
SaysYes p groups plan s goal = (least : Option ℕ) × SectionGives p groups plan s (Ok (said.Yes goal least))

-- ---- all sections

abbrev pub is_optimal_goal : Goal → Bool
is_optimal_goal (part_goal.Optimal cost) = true
is_optimal_goal part_goal.Infeasible = false
is_optimal_goal (part_goal.Undecided count) = false

abbrev pub is_infeasible_goal : Goal → Bool
is_infeasible_goal (part_goal.Optimal cost) = false
is_infeasible_goal part_goal.Infeasible = true
is_infeasible_goal (part_goal.Undecided count) = false

-- what all goals show of the whole
abbrev pub goal_of_all : Instance → Option PlanChoices → List Goal → WholeGoal
goal_of_all p (Some plan) goals = if list_all is_optimal_goal goals then Optimal (cost_of p (choices_of plan)) else Undecided
goal_of_all p None goals = if list_all is_infeasible_goal goals then Infeasible else Undecided

-- each section says yes to the goal beside it, and this is what the goals show
pub record AllSayYes (p : Instance) (groups : List NodeSet) (plan : Option PlanChoices) (sections : List SectionText) (goal : WholeGoal) : Type 0 where
  pub goals : List Goal
  pub yes : AllZip (SaysYes p groups plan) sections goals
  pub shown : goal ≡ goal_of_all p plan goals

-- all before the section of this part say yes to the goals beside them, and this is what its check gives
pub record StopsAt (p : Instance) (groups : List NodeSet) (plan : Option PlanChoices) (sections : List SectionText) (part : ℕ) (given : Result Verdict CheckFault) : Type 0 where
  pub before : List SectionText
  pub body : List ℕ
  pub after : List SectionText
  pub stands : sections ≡ before ++ section_of part body ∷ after
  pub goals : List Goal
  pub yes : AllZip (SaysYes p groups plan) before goals
  pub gives : SectionGives p groups plan (section_of part body) given

-- ---- the verdict

-- what the sections give; of want of memory nothing is said
abbrev pub SectionsGive : Instance → List NodeSet → Option PlanChoices → List SectionText → Result PartsVerdict PartsFault → Type 0
SectionsGive p groups plan sections (Ok (Yes goal)) = AllSayYes p groups plan sections goal
SectionsGive p groups plan sections (Ok NoSections) = ⊥
SectionsGive p groups plan sections (Ok (No part line why)) = StopsAt p groups plan sections part (Ok (said.No line why))
SectionsGive p groups plan sections (Err (Line part fault)) = StopsAt p groups plan sections part (Err (check_fault.Line fault))
SectionsGive p groups plan sections (Err Memory) = Unit {0}

-- the text has the sections that are wanted, and they give this
pub record TextGives (p : Instance) (groups : List NodeSet) (plan : Option PlanChoices) (text : List ℕ) (result : Result PartsVerdict PartsFault) : Type 0 where
  pub sections : List SectionText
  pub has : HasSections groups plan text sections
  pub give : SectionsGive p groups plan sections result

-- the text has none, or they give this; of want of memory nothing is said
abbrev pub GivesOfParts : Instance → List NodeSet → Option PlanChoices → List ℕ → Result PartsVerdict PartsFault → Type 0
GivesOfParts p groups plan text (Ok NoSections) = (sections : List SectionText) → ¬ HasSections groups plan text sections
GivesOfParts p groups plan text (Ok (Yes goal)) = TextGives p groups plan text (Ok (Yes goal))
GivesOfParts p groups plan text (Ok (No part line why)) = TextGives p groups plan text (Ok (No part line why))
GivesOfParts p groups plan text (Err (Line part fault)) = TextGives p groups plan text (Err (Line part fault))
GivesOfParts p groups plan text (Err Memory) = Unit {0}

-- ---- what a yes means

-- optimal: the plan is there, is optimal, and costs so much; infeasible: no plan is valid
abbrev pub IsSoundOfWhole : Instance → Option PlanChoices → PartsVerdict → Type 0
IsSoundOfWhole p plan (Yes (Optimal cost)) = IsSomeAnd plan (λ one. IsOptimal p (choices_of one) × (cost_of p (choices_of one) ≡ cost))
IsSoundOfWhole p plan (Yes Infeasible) = IsInfeasible p
IsSoundOfWhole p plan (Yes Undecided) = Unit {0}
IsSoundOfWhole p plan NoSections = Unit {0}
IsSoundOfWhole p plan (No part line why) = Unit {0}
