-- What is proved of certificates that were written: they are read back.
use Rattle.std.specs.Prelude.{◌≡◌, ℕ, List, [], ◌∷◌, Ok}
use Rattle.cert_text.specs.Prelude.{certificate_text, HasStep, Instance, IsGoal, IsInstance, step_text}
use Rattle.trees.specs.declared.steps.{Goal.Goal, Step.Step}
use Rattle.cert_read.specs.{declared.line.Line.Line, declared.line.Line.TheVariants.Step as StepLine, declared.line.Line.TheVariants.End, declared.line.Line.TheVariants.Over, declared.position.Position.Position, Lines.start, Lines.turn}

-- each of the steps can be written
abbrev pub AreWritable : Instance → List Step → Type 0
AreWritable p [] = Unit {0}
AreWritable p (s ∷ steps) = HasStep p s × AreWritable p steps

-- what a certificate with these steps and this goal says, line by line after its header
abbrev pub lines_of : Instance → List Step → Goal → List Line
lines_of p [] goal = End goal ∷ Over ∷ []
lines_of p (s ∷ steps) goal = StepLine (step_text p s) ∷ lines_of p steps goal

-- these lines are read from a position on, one after the other
abbrev pub ReadsOn : List ℕ → Position → List Line → Type 0
ReadsOn file at [] = Unit {0}
ReadsOn file at (line ∷ lines) = (after : Position) × (turn file at ≡ Ok (line, after)) × ReadsOn file after lines

-- what was written is read back
abbrev pub CertificatesReadBack : Type 0
CertificatesReadBack =
    (p : Instance) → IsInstance p → (steps : List Step) → AreWritable p steps → (goal : Goal) → IsGoal goal → ReadsOn (certificate_text p steps goal) start (lines_of p steps goal)
