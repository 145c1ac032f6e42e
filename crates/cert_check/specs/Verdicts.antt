-- The verdict on a certificate: its lines are taken in order, and the first that decides gives it.
use Rattle.std.specs.Prelude.{◌≡◌, ◌⊎◌, ℕ, Bool, List, [], ◌∷◌, map, Option, Some, None, Result, Ok, Err}
use Rattle.cert_read.specs.Prelude.{CountsLine, Faults, start, turn}
use Rattle.cert_model.specs.Prelude.{bound_of, Choices, GoalHolds, Instance, IsEndWhy, IsHandedIn, IsProof, IsRefused, IsValid, LeadsTo, least_along, Sets, shown}
use Rattle.trees.specs.declared.steps.{Goal.Goal, Step.Step as TreeStep}
use Rattle.cert_model.specs.declared.why.Why.{Why, TheVariants.Structure, TheVariants.Name, TheVariants.Plan}
use Rattle.cert_text.specs.declared.text.StepText.{StepText}
use Rattle.cert_read.specs.declared.{line.Line.TheVariants.Step, line.Line.TheVariants.End, line.Line.TheVariants.Over, line.LineFault.LineFault, position.Position.Position}
use Rattle.cert_check.specs.{declared.verdict.CheckFault.CheckFault, declared.verdict.CheckFault.TheVariants.Line, declared.verdict.CheckFault.TheVariants.Memory, declared.verdict.Verdict.Verdict, declared.verdict.Verdict.TheVariants.Yes, declared.verdict.Verdict.TheVariants.No, Names.named_step}

-- ---- the lines before

-- the lines from one position of a file to another are steps with these texts
abbrev pub AreSteps : List ℕ → Position → List StepText → Position → Type 0
AreSteps file at [] now = now ≡ at
AreSteps file at (text ∷ texts) now = (next : Position) × (turn file at ≡ Ok (Step text, next)) × AreSteps file next texts now

-- they name steps that are due and hold
pub record AreTaken (p : Instance) (bound : Option ℕ) (strict : Bool) (file : List ℕ) (steps : List TreeStep) (at : Position) : Type 0 where
  pub texts : List StepText
  pub read : AreSteps file start texts at
  pub named : map (named_step p) texts ≡ map (λ step. Some step) steps
  pub open_sets : List Sets
  pub leads : LeadsTo p bound strict steps open_sets

-- ---- the line that decides

-- the tree is whole, or a name is not the problem's, or the step is refused where it is due
abbrev pub IsTextWhy : Instance → Option ℕ → Bool → List TreeStep → StepText → Why → Type 0
IsTextWhy p bound strict steps text why =
    (LeadsTo p bound strict steps [] × (why ≡ Structure))
    ⊎ (((LeadsTo p bound strict steps [] → ⊥) × (named_step p text ≡ None) × (why ≡ Name))
    ⊎ ((step : TreeStep) × (named_step p text ≡ Some step) × IsRefused p bound strict steps step why))

-- a step that is not taken, on a line of that number
pub record IsStepRefused (p : Instance) (bound : Option ℕ) (strict : Bool) (file : List ℕ) (line : ℕ) (why : Why) : Type 0 where
  pub steps : List TreeStep
  pub at : Position
  pub taken : AreTaken p bound strict file steps at
  pub text : StepText
  pub next : Position
  pub read : turn file at ≡ Ok (Step text, next)
  pub number : line ≡ next.lines
  pub refused : IsTextWhy p bound strict steps text why

-- a goal that is not shown
pub record IsGoalRefused (p : Instance) (bound : Option ℕ) (strict : Bool) (file : List ℕ) (line : ℕ) (why : Why) : Type 0 where
  pub steps : List TreeStep
  pub at : Position
  pub taken : AreTaken p bound strict file steps at
  pub goal : Goal
  pub next : Position
  pub read : turn file at ≡ Ok (End goal, next)
  pub number : line ≡ next.lines
  pub refused : IsEndWhy p bound strict steps goal why

-- a goal that is shown by a whole tree; the position after its line
pub record IsShown (p : Instance) (bound : Option ℕ) (strict : Bool) (file : List ℕ) (goal : Goal) (least : Option ℕ) (next : Position) : Type 0 where
  pub steps : List TreeStep
  pub at : Position
  pub taken : AreTaken p bound strict file steps at
  pub read : turn file at ≡ Ok (End goal, next)
  pub proof : IsProof p bound strict steps
  pub shows : goal ≡ shown bound steps
  pub least_is : least ≡ least_along p bound steps

-- and nothing follows
pub record IsYes (p : Instance) (bound : Option ℕ) (strict : Bool) (file : List ℕ) (goal : Goal) (least : Option ℕ) : Type 0 where
  pub next : Position
  pub shown_there : IsShown p bound strict file goal least next
  pub over : turn file next ≡ Ok (Over, next)

-- a line that cannot be read, where a step or the goal is due
pub record IsUnread (p : Instance) (bound : Option ℕ) (strict : Bool) (file : List ℕ) (fault : LineFault) : Type 0 where
  pub steps : List TreeStep
  pub at : Position
  pub taken : AreTaken p bound strict file steps at
  pub read : Faults fault (turn file at)

-- or something that follows the goal, which is shown
pub record IsFollowed (p : Instance) (bound : Option ℕ) (strict : Bool) (file : List ℕ) (fault : LineFault) : Type 0 where
  pub goal : Goal
  pub least : Option ℕ
  pub next : Position
  pub shown_there : IsShown p bound strict file goal least next
  pub read : Faults fault (turn file next)

-- ---- the verdict

-- the plan that is handed in, if one is, is valid
abbrev pub IsFit : Instance → Option Choices → Type 0
IsFit p None = Unit {0}
IsFit p (Some plan) = IsValid p plan

-- without a plan, or with a valid one: what the lines say
abbrev pub LinesSay : Instance → Option ℕ → Bool → List ℕ → Verdict → Type 0
LinesSay p bound strict file (Yes goal least) = IsYes p bound strict file goal least
LinesSay p bound strict file (No line why) = IsStepRefused p bound strict file line why ⊎ IsGoalRefused p bound strict file line why

-- or which of them cannot be read; of a failed read and of want of memory nothing is said
abbrev pub LinesGive : Instance → Option ℕ → Bool → List ℕ → Result Verdict CheckFault → Type 0
LinesGive p bound strict file (Ok verdict) = LinesSay p bound strict file verdict
LinesGive p bound strict file (Err (Line fault)) = IsUnread p bound strict file fault ⊎ IsFollowed p bound strict file fault
LinesGive p bound strict file (Err Memory) = Unit {0}

-- a plan that is not valid is refused before the first line
abbrev pub CheckGives : Instance → Option Choices → Bool → List ℕ → Result Verdict CheckFault → Type 0
CheckGives p plan strict file result =
    (IsFit p plan → LinesGive p (bound_of p plan) strict file result) × (¬ IsFit p plan → result ≡ Ok (No 0 Plan))

-- ---- what a yes means

-- the plan that was handed in is valid, and what the goal says is so
pub record GoalIsSo (p : Instance) (plan : Option Choices) (goal : Goal) (least : Option ℕ) : Type 0 where
  pub handed_in : IsHandedIn p plan
  pub holds : GoalHolds p plan least goal

abbrev pub IsSound : Instance → Option Choices → Verdict → Type 0
IsSound p plan (Yes goal least) = GoalIsSo p plan goal least
IsSound p plan (No line why) = Unit {0}

-- ---- failed reads

-- a failed read is answered only where the count rose, and any other answer leaves the count
abbrev pub CountsCheck : {A : Type 0} → ℕ → ℕ → Result A CheckFault → Type 0
CountsCheck before now (Ok verdict) = now ≡ before
CountsCheck before now (Err (Line fault)) = CountsLine {A = ℕ} before now (Err fault)
CountsCheck before now (Err Memory) = now ≡ before
