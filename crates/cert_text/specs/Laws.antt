-- What is proved of lines.
use Rattle.std.specs.Prelude.{◌≡◌, ℕ, ◌≤◌, List, length, Some}
use Rattle.std.specs.List.{Contains}
use Rattle.catalogue.specs.Instance.{Instance, IsInstance}
use Rattle.trees.specs.declared.steps.Goal.{Goal}
use Rattle.trees.specs.declared.steps.Step.{Step}
use Rattle.cert_text.specs.declared.text.LineText.{LineText}
use Rattle.cert_text.specs.declared.text.LineText.TheVariants.{Step as StepLine, End}
use Rattle.cert_text.specs.Reading.{reading}
use Rattle.cert_text.specs.Spelling.{HasStep, step_text}
use Rattle.cert_text.specs.Texts.{IsGoal, IsLine, Spells, joined, line_words, max_line}

-- what is read is spelled, and what is spelled is read
pub record ReadingsAreExact : Type 0 where
  pub spelled : (bytes : List ℕ) (line : LineText) → reading bytes ≡ Some line → Spells bytes line
  pub read : (bytes : List ℕ) (line : LineText) → Spells bytes line → reading bytes ≡ Some line

-- so bytes spell one line at most
abbrev pub LinesHaveOneReading : Type 0
LinesHaveOneReading = (bytes : List ℕ) (one other : LineText) → Spells bytes one → Spells bytes other → one ≡ other

-- a step that can be written is a line
abbrev pub StepsAreLines : Type 0
StepsAreLines = (p : Instance) → IsInstance p → (s : Step) → HasStep p s → IsLine (StepLine (step_text p s))

-- no line has a newline in it
abbrev pub LinesHaveNoNewline : Type 0
LinesHaveNoNewline = (line : LineText) → IsLine line → ¬ Contains (joined (line_words line)) 10

-- the lines of steps that can be written, and of goals, have no more bytes than lines may have
pub record LinesFit : Type 0 where
  pub steps : (p : Instance) → IsInstance p → (s : Step) → HasStep p s → length (joined (line_words (StepLine (step_text p s)))) ≤ max_line
  pub goals : (goal : Goal) → IsGoal goal → length (joined (line_words (End goal))) ≤ max_line
