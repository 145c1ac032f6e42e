-- What `execute` answers, and which bytes it takes from the source.
use Rattle.std.specs.Prelude.{◌≡◌, ◌⊎◌, ℕ, List, ◌++◌, Option, Some, None, Ok, codes}
use Rattle.std.specs.{Fmt.decimal, Io.StartsWith}
use Rattle.cluster.specs.Inventory.{name_of}
use Rattle.slices.specs.{Rules.IsFirstBroken, declared.rule.Broken.Broken}
use Rattle.transcript.specs.Prelude.{Choices, first_point, Instance, inventory_of, IsValid, StopsInEvent, StopsInStart}
use Rattle.replay.specs.Lines.{broken_line}
use Rattle.transcript.specs.declared.conclusion.Conclusion.{Conclusion, TheVariants.Done, TheVariants.StoppedFail, TheVariants.StoppedEnd, TheVariants.Refused}
use Rattle.event_lines.specs.declared.faults.EventFault.{EventFault}
use Rattle.transcript.specs.{Lines.fault_text, Transcript.EndsFrom}
use Rattle.plan_io.specs.Files.{Files}
use Rattle.command_frame.specs.{Answer.Outside, Answer.outside, Answer.Says, Answer.AnswersBy, Inputs.input_line, Inputs.Instance.instance_in, Inputs.Plan.plan_in, declared.status.Status.Status}

-- ---- the last line

-- The line that refuses an event line.
abbrev pub events_line : (text : List ℕ) → List ℕ
events_line text = input_line (codes "events") text

-- The line that refuses the event line of this number.
abbrev pub refused_line : ℕ → EventFault → List ℕ
refused_line number fault = events_line (decimal number ++ codes " " ++ fault_text fault)

-- The line of how an execution ends, after the lines of its starts.
unfoldable pub conclusion_line : Instance → Conclusion → List ℕ
conclusion_line p Done = codes "done\n"
conclusion_line p (StoppedFail e) = codes "stopped fail " ++ name_of (inventory_of p) e ++ codes "\n"
conclusion_line p StoppedEnd = codes "stopped end\n"
conclusion_line p (Refused number fault) = refused_line number fault

abbrev pub conclusion_status : Conclusion → Status
conclusion_status Done = Status.Good
conclusion_status (StoppedFail e) = Status.Negative
conclusion_status StoppedEnd = Status.Negative
conclusion_status (Refused number fault) = Status.Input

-- ---- the answer

-- The transcript of a plan over the bytes of a source is written, with its last line, and the rest of them is left.
pub record Transcribes (p : Instance) (plan : Choices) (bytes before rest after : List ℕ) (result : Status) : Type 0 where
  pub conclusion : Conclusion
  pub written : List ℕ
  pub ends : EndsFrom p plan (first_point plan bytes before) conclusion rest written
  pub printed : after ≡ written ++ conclusion_line p conclusion
  pub status : result ≡ conclusion_status conclusion

-- It is so of a source that tells its bytes. Of one that does not, nothing is said.
abbrev pub TranscribesTold : Instance → Choices → Option (List ℕ) → (before after : List ℕ) → Status → Type 0
TranscribesTold p plan None before after result = Unit {0}
TranscribesTold p plan (Some bytes) before after result = (rest : List ℕ) × Transcribes p plan bytes before rest after result

-- A plan is executed: where it is not valid its first broken rule is said, and else its transcript is written.
unfoldable pub Executes : Option (List ℕ) → Instance → Choices → Outside → Outside → Status → Type 0
Executes source p plan before after result =
    ((broken : Broken) × IsFirstBroken p plan broken × Says (broken_line p broken) Status.Negative before after result)
    ⊎ (IsValid p plan × (after.files ≡ before.files) × TranscribesTold p plan source before.printed after.printed result)

-- What has been written is the beginning of what is written at an answer.
pub record IsPartOfAnswer (source : Option (List ℕ)) (p : Instance) (plan : Choices) (files : Files) (before after : List ℕ) : Type 0 where
  pub whole : List ℕ
  pub result : Status
  pub answered : Executes source p plan (outside files before) (outside files whole) result
  pub prefix : StartsWith whole after

-- `execute` of a problem, by the plan that its file holds.
abbrev pub IsExecuted : Option (List ℕ) → (plan_file : List ℕ) → Instance → Outside → Outside → Status → Type 0
IsExecuted source plan_file p before after result = AnswersBy (Executes source p) (plan_in p before.files plan_file) before after result

-- ---- what is taken from the source

-- The bytes of a source before and after a run, and its counts of faults.
pub record Taking : Type 0 where
  pub bytes : List ℕ
  pub rest : List ℕ
  pub faults_before : ℕ
  pub faults_after : ℕ

abbrev pub taking : (bytes rest : List ℕ) → (faults_before faults_after : ℕ) → Taking
taking bytes rest faults_before faults_after = record { bytes = bytes; rest = rest; faults_before = faults_before; faults_after = faults_after }

-- Nothing is taken, nothing is printed, and no read of the source failed.
pub record TakesNothing (taking : Taking) (before after : List ℕ) : Type 0 where
  pub rest : taking.rest ≡ taking.bytes
  pub printed : after ≡ before
  pub faults : taking.faults_after ≡ taking.faults_before

-- A prefix of the last line is printed; the bytes that are taken are those before it.
pub record StopsInConclusion (p : Instance) (plan : Choices) (bytes before rest after : List ℕ) : Type 0 where
  pub conclusion : Conclusion
  pub written : List ℕ
  pub ends : EndsFrom p plan (first_point plan bytes before) conclusion rest written
  pub begun : StartsWith after written
  pub cut : StartsWith (written ++ conclusion_line p conclusion) after

-- What the execution of a valid plan has taken and printed, by its status.
abbrev pub Took : Instance → Choices → Taking → (before after : List ℕ) → Status → Type 0
Took p plan taking before after Status.Good = Transcribes p plan taking.bytes before taking.rest after Status.Good
Took p plan taking before after Status.Negative = Transcribes p plan taking.bytes before taking.rest after Status.Negative
Took p plan taking before after Status.Undecided = Transcribes p plan taking.bytes before taking.rest after Status.Undecided
Took p plan taking before after Status.Words = Transcribes p plan taking.bytes before taking.rest after Status.Words
Took p plan taking before after Status.Input = Transcribes p plan taking.bytes before taking.rest after Status.Input
-- a file or an event line could not be read: no byte is taken past the line in which the read failed, and each line before it is printed
Took p plan taking before after Status.ReadFault =
    TakesNothing taking before after ⊎ StopsInEvent p plan (first_point plan taking.bytes before) taking.rest after
-- a line was not taken whole: no byte is taken that is read after it
Took p plan taking before after Status.WriteFault =
    StopsInStart p plan (first_point plan taking.bytes before) taking.rest after ⊎ StopsInConclusion p plan taking.bytes before taking.rest after
-- want of memory: nothing is said
Took p plan taking before after Status.Memory = Unit {0}

-- The same of a plan that may not be valid, of which nothing is said then.
abbrev pub TookBy : Instance → Choices → Taking → (before : List ℕ) → Outside → Status → Type 0
TookBy p plan taking before after result = IsValid p plan → Took p plan taking before after.printed result

-- The files hold a plan that is valid: actions start.
unfoldable pub Starts : Files → (instance plan_file : List ℕ) → Type 0
Starts files instance plan_file =
    (p : Instance) × (plan : Choices) × (instance_in files instance ≡ Ok p) × (plan_in p files plan_file ≡ Ok plan) × IsValid p plan

-- What is taken where the files hold a valid plan.
unfoldable pub TakesRead : (instance plan_file : List ℕ) → Taking → Outside → Outside → Status → Type 0
TakesRead instance plan_file taking before after result =
    (p : Instance) (plan : Choices) → instance_in before.files instance ≡ Ok p → plan_in p before.files plan_file ≡ Ok plan →
    TookBy p plan taking before.printed after result
