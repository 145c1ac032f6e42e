-- Laws of transcripts.
use Rattle.std.specs.Prelude.{◌≡◌, ℕ, List, Err}
use Rattle.std.specs.Io.{StartsWith}
use Rattle.executor.specs.Prelude.{Choices, choices_of, Instance, IsExecution, IsInstance, IsPlanOf, IsSafe, IsValid, PlanChoices}
use Rattle.transcript.specs.declared.conclusion.{Conclusion.Conclusion, ExecuteFault.ExecuteFault}
use Rattle.transcript.specs.Transcript.{EndsFrom, Point, Reaches, RunGives, first_point}

-- ---- every text has one transcript

-- from a point there is a transcript, of which this is a beginning
pub record IsBegun (p : Instance) (plan : Choices) (first : Point) (written : List ℕ) : Type 0 where
  pub conclusion : Conclusion
  pub rest : List ℕ
  pub whole : List ℕ
  pub ends : EndsFrom p plan first conclusion rest whole
  pub prefix : StartsWith whole written

-- so it is from each point of an execution
abbrev pub AlwaysEnds : Type 0
AlwaysEnds =
    (p : Instance) (plan : PlanChoices) → IsPlanOf p plan → (first : Point) → IsExecution p (choices_of plan) first.phases →
    IsBegun p (choices_of plan) first first.written

-- and where a run stops by a fault, what is written is the beginning of a transcript
abbrev pub FaultsLeaveABeginning : Type 0
FaultsLeaveABeginning =
    (p : Instance) (plan : PlanChoices) → IsPlanOf p plan → (first : Point) → IsExecution p (choices_of plan) first.phases →
    (fault : ExecuteFault) (rest written : List ℕ) → RunGives p (choices_of plan) first (Err fault) rest written →
    IsBegun p (choices_of plan) first written

-- two transcripts of one text are the same
abbrev pub TranscriptIsOne : Type 0
TranscriptIsOne =
    (p : Instance) (plan : Choices) (first : Point) (a b : Conclusion) (rest rest' written written' : List ℕ) →
    EndsFrom p plan first a rest written → EndsFrom p plan first b rest' written' → (a ≡ b) × (rest ≡ rest') × (written ≡ written')

-- ---- it is safe

-- at each point of a transcript of a valid plan no node is over a capacity, all that is present is on usable nodes, and every continuous constraint holds
abbrev pub EveryPointIsSafe : Type 0
EveryPointIsSafe =
    (p : Instance) → IsInstance p → (plan : PlanChoices) → IsPlanOf p plan → IsValid p (choices_of plan) → (bytes written : List ℕ) (a : Point) →
    Reaches p (choices_of plan) (first_point (choices_of plan) bytes written) a → IsSafe p (choices_of plan) a.phases
