-- Helping only: what one line changes, and what is known between two lines.
use Rattle.std.specs.Prelude.{◌≡◌, ℕ, ◌≤◌, Bool, false, List, [], ◌∷◌, ◌++◌, length, Option, Some, Result, Ok, Err, MatchOption}
use Rattle.cert_model.specs.Prelude.{Instance, IsProof, Kept, least_along, shown, Stands}
use Rattle.trees.specs.declared.steps.{Goal.Goal, Step.Step}
use Rattle.cert_model.specs.declared.why.Why.{Why}
use Rattle.cert_text.specs.declared.text.StepText.{StepText}
use Rattle.cert_read.specs.declared.position.Position.{Position}
use Rattle.cert_check.specs.{declared.lines.Going.Going, declared.lines.Going.TheVariants.GoesOn, declared.lines.Going.TheVariants.Ends, declared.verdict.CheckFault.CheckFault, declared.verdict.Verdict.Verdict, declared.verdict.Verdict.TheVariants.Yes, declared.verdict.Verdict.TheVariants.No, Names.named_step, Verdicts.AreTaken, Verdicts.IsTextWhy, Verdicts.LinesGive, Verdicts.LinesSay}

-- the step that the text names was taken
pub record IsTaken (p : Instance) (bound : Option ℕ) (strict : Bool) (steps : List Step) (text : StepText) (w : Kept) : Type 0 where
  pub step : Step
  pub named : named_step p text ≡ Some step
  pub stands : Stands p bound strict (steps ++ step ∷ []) w

-- the answer to a text, for all steps that the walk stands for
abbrev pub TextAnswers : Instance → Kept → Kept → StepText → Option Why → Type 0
TextAnswers p old new text answer =
    (bound : Option ℕ) (strict : Bool) (steps : List Step) → Stands p bound strict steps old →
    MatchOption answer (IsTaken p bound strict steps text new) (IsTextWhy p bound strict steps text)

-- between two lines: the walk stands for steps, of which there are no more than bytes were read, and where the desk tells its
-- files the lines so far name them
pub record IsUnderway (p : Instance) (bound : Option ℕ) (strict : Bool) (tells : Type 0) (file : List ℕ) (at : Position) (w : Kept) : Type 0 where
  pub steps : List Step
  pub stands : Stands p bound strict steps w
  pub few : length steps ≤ at.place
  pub going_on : at.ended ≡ false
  pub taken : tells → AreTaken p bound strict file steps at

-- a yes has a proof, whatever the desk tells
pub record HasProof (p : Instance) (bound : Option ℕ) (strict : Bool) (goal : Goal) (least : Option ℕ) : Type 0 where
  pub steps : List Step
  pub proof : IsProof p bound strict steps
  pub shows : goal ≡ shown bound steps
  pub least_is : least ≡ least_along p bound steps

abbrev pub IsProved : Instance → Option ℕ → Bool → Verdict → Type 0
IsProved p bound strict (Yes goal least) = HasProof p bound strict goal least
IsProved p bound strict (No line why) = Unit {0}

-- what an answer that ends the check says
abbrev pub Concludes : Instance → Option ℕ → Bool → Type 0 → List ℕ → Result Verdict CheckFault → Type 0
Concludes p bound strict tells file (Ok verdict) = (tells → LinesSay p bound strict file verdict) × IsProved p bound strict verdict
Concludes p bound strict tells file (Err fault) = tells → LinesGive p bound strict file (Err fault)

-- what one line gives: the check goes on, or ends
abbrev pub TurnGives : Instance → Option ℕ → Bool → Type 0 → List ℕ → Position → Kept → Result Going CheckFault → Type 0
TurnGives p bound strict tells file at w (Ok GoesOn) = IsUnderway p bound strict tells file at w
TurnGives p bound strict tells file at w (Ok (Ends verdict)) = Concludes p bound strict tells file (Ok verdict)
TurnGives p bound strict tells file at w (Err fault) = Concludes p bound strict tells file (Err fault)

-- the check is between two lines
pub record IsGoing (p : Instance) (tells : Type 0) (file : List ℕ) (at : Position) (w : Kept) : Type 0 where
  pub bound : Option ℕ
  pub strict : Bool
  pub underway : IsUnderway p bound strict tells file at w
