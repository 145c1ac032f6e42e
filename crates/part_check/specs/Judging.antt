-- Helping only: what is known where a section says yes, and what is kept from section to section.
use Rattle.std.specs.Prelude.{◌≡◌, ℕ, List, Option, Err, IsSomeAnd}
use Rattle.std.specs.List.{AllZip, list_all}
use Rattle.cluster.specs.declared.sets.NodeSet.{NodeSet}
use Rattle.catalogue.specs.Prelude.{Instance}
use Rattle.slices.specs.Prelude.{Choices, choices_of, IsInfeasible, IsOptimal}
use Rattle.slices.specs.Plans.{PlanChoices}
use Rattle.parts.specs.Parts.{part_of}
use Rattle.partition.specs.Plans.{IsPartPlan}
use Rattle.cert_parts.specs.Sections.{SectionText}
use Rattle.trees.specs.declared.steps.Goal.{Goal}
use Rattle.trees.specs.declared.steps.Goal.TheVariants.{Optimal, Infeasible, Undecided}
use Rattle.cert_check.specs.declared.verdict.CheckFault.TheVariants as check_fault
use Rattle.cert_check.specs.declared.verdict.Verdict.{Verdict}
use Rattle.cert_check.specs.declared.verdict.Verdict.TheVariants.{Yes, No}
use Rattle.part_check.specs.declared.seen.Seen.{Seen}
use Rattle.part_check.specs.declared.verdict.PartsFault.{PartsFault}
use Rattle.part_check.specs.declared.verdict.PartsFault.TheVariants.{Line, Memory}
use Rattle.part_check.specs.Verdicts.{is_infeasible_goal, is_optimal_goal, SaysYes, SectionGives}

-- ---- what is so of a part

-- the part's plan is there, and optimal
pub record HasOptimalPart (p : Instance) (groups : List NodeSet) (plan : Choices) (i : ℕ) : Type 0 where
  pub own : PlanChoices
  pub own_is : IsPartPlan p groups i plan own
  pub optimal : IsOptimal (part_of p groups i) (choices_of own)

-- what the goal of a part says
abbrev pub PartGoalIsSo : Instance → List NodeSet → Option PlanChoices → ℕ → Goal → Type 0
PartGoalIsSo p groups plan i (Optimal cost) = IsSomeAnd plan (λ one. HasOptimalPart p groups (choices_of one) i)
PartGoalIsSo p groups plan i Infeasible = IsInfeasible (part_of p groups i)
PartGoalIsSo p groups plan i (Undecided count) = Unit {0}

-- and a verdict on its section
abbrev pub IsSoundOfPart : Instance → List NodeSet → Option PlanChoices → ℕ → Verdict → Type 0
IsSoundOfPart p groups plan i (Yes goal least) = PartGoalIsSo p groups plan i goal
IsSoundOfPart p groups plan i (No line why) = Unit {0}

-- ---- what a fault says of a section

abbrev pub FaultGives : Instance → List NodeSet → Option PlanChoices → SectionText → PartsFault → Type 0
FaultGives p groups plan s (Line part fault) = (part ≡ s.part) × SectionGives p groups plan s (Err (check_fault.Line fault))
FaultGives p groups plan s Memory = Unit {0}

-- ---- from section to section

-- whether all goals are of one kind
abbrev pub seen_of : List Goal → Seen
seen_of goals = record { all_optimal = list_all is_optimal_goal goals; all_infeasible = list_all is_infeasible_goal goals }

-- the sections so far say yes, their goals are so, and this is kept of them
pub record AreTaken (p : Instance) (groups : List NodeSet) (plan : Option PlanChoices) (sections : List SectionText) (seen : Seen) : Type 0 where
  pub goals : List Goal
  pub yes : AllZip (SaysYes p groups plan) sections goals
  pub so : AllZip (λ s goal. PartGoalIsSo p groups plan s.part goal) sections goals
  pub seen_is : seen ≡ seen_of goals
