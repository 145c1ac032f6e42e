-- What is proved of the text of an answer by solved parts: it is accepted.
use Rattle.std.specs.Prelude.{◌≡◌, ℕ, ◌<◌, ◌^◌, List, length, Option, Result, Ok, Err}
use Rattle.cluster.specs.declared.sets.NodeSet.{NodeSet}
use Rattle.catalogue.specs.Prelude.{Instance}
use Rattle.slices.specs.Prelude.{choices_of, cost_of}
use Rattle.slices.specs.Plans.{PlanChoices}
use Rattle.parts.specs.Laws.{Split}
use Rattle.part_solver.specs.Answers.{IsAnswered, plan_answered}
use Rattle.part_solver.specs.declared.answer.WholeAnswer.{WholeAnswer}
use Rattle.part_solver.specs.declared.answer.WholeAnswer.TheVariants as answer
use Rattle.cert_read.specs.Reader.{IsOutside}
use Rattle.part_check.specs.declared.verdict.PartsFault.{PartsFault}
use Rattle.part_check.specs.declared.verdict.PartsFault.TheVariants.{Line, Memory}
use Rattle.part_check.specs.declared.verdict.PartsVerdict.{PartsVerdict}
use Rattle.part_check.specs.declared.verdict.PartsVerdict.TheVariants.{Yes, NoSections, No}
use Rattle.part_check.specs.declared.verdict.WholeGoal.{WholeGoal}
use Rattle.part_check.specs.declared.verdict.WholeGoal.TheVariants.{Optimal, Infeasible, Undecided}
use Rattle.part_check.specs.Verdicts.{GivesOfParts}

-- ---- accepted

-- the answer is yes with this goal, or says nothing of the text: a failed read, or want of memory
abbrev pub IsYesOfWhole : WholeGoal → Result PartsVerdict PartsFault → Type 0
IsYesOfWhole goal (Ok (Yes shown)) = shown ≡ goal
IsYesOfWhole goal (Ok NoSections) = ⊥
IsYesOfWhole goal (Ok (No part line why)) = ⊥
IsYesOfWhole goal (Err (Line part fault)) = IsOutside fault
IsYesOfWhole goal (Err Memory) = Unit {0}

-- the verdict on the text is yes with this goal, and there is no other
pub record TextIsAccepted (p : Instance) (groups : List NodeSet) (plan : Option PlanChoices) (text : List ℕ) (goal : WholeGoal) : Type 0 where
  pub yes : GivesOfParts p groups plan text (Ok (Yes goal))
  pub alone : (answer : Result PartsVerdict PartsFault) → GivesOfParts p groups plan text answer → IsYesOfWhole goal answer

-- ---- answers

-- what its text shows
abbrev pub goal_answered : Instance → WholeAnswer → WholeGoal
goal_answered p (answer.Infeasible part) = Infeasible
goal_answered p (answer.Unmet part) = Undecided
goal_answered p (answer.Optimal plan) = Optimal (cost_of p (choices_of plan))
goal_answered p (answer.Valid plan) = Undecided

-- the text of an answer is accepted, for the plan of the answer or for none; its groups and its budget are as many as 64 bits can count
abbrev pub AnsweredIsAccepted : Type 0
AnsweredIsAccepted =
    (p : Instance) (groups : List NodeSet) → Split p groups → length groups < 2 ^ 64 → (budget : ℕ) → budget < 2 ^ 64 → (whole : WholeAnswer) (text : List ℕ) → IsAnswered p groups budget whole text →
    TextIsAccepted p groups (plan_answered whole) text (goal_answered p whole)
