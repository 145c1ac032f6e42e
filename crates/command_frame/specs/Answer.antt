-- The outside before and after a run, and what the answers of commands have in common.
use Rattle.std.specs.Prelude.{◌≡◌, ◌++◌, Bool, ℕ, List, Option, Some, None, Result, Ok, Err, if◌then◌else◌}
use Rattle.plan_io.specs.Files.{Files}
use Rattle.slices.specs.Prelude.{Choices, Instance}
use Rattle.command_frame.specs.{Inputs.Instance.instance_in, Inputs.Plan.plan_in, declared.status.Status.Status}

-- The files of the desk, and what the sink has got.
pub record Outside : Type 0 where
  pub files : Files
  pub printed : List ℕ

abbrev pub outside : Files → List ℕ → Outside
outside files printed = record { files = files; printed = printed }

-- What the source has left, where it tells.
abbrev pub told : Bool → List ℕ → Option (List ℕ)
told tells rest = if tells then Some rest else None

-- A line and a status, and no file changes.
pub record Says (line : List ℕ) (said : Status) (before after : Outside) (result : Status) : Type 0 where
  pub printed : after.printed ≡ before.printed ++ line
  pub status : result ≡ said
  pub files : after.files ≡ before.files

-- The answer by what an input means: by its value, or else by the line that refuses it.
abbrev pub AnswersBy : {X : Type 0} → (X → Outside → Outside → Status → Type 0) → Result X (List ℕ) → Outside → Outside → Status → Type 0
AnswersBy answer (Ok value) before after result = answer value before after result
AnswersBy answer (Err line) before after result = Says line Status.Input before after result

-- The answer by the problem in the file of this name, or by the line that refuses it.
unfoldable pub AnswersFrom : (Instance → Outside → Outside → Status → Type 0) → (instance : List ℕ) → Outside → Outside → Status → Type 0
AnswersFrom answer instance before after result = AnswersBy answer (instance_in before.files instance) before after result

-- The answer by the problem in one file and its plan in another, or by the line that refuses one of them.
unfoldable pub AnswersFromPlan : (Instance → Choices → Outside → Outside → Status → Type 0) → (instance plan_file : List ℕ) → Outside → Outside → Status → Type 0
AnswersFromPlan answer instance plan_file before after result =
    AnswersBy (λ p start end said. AnswersBy (answer p) (plan_in p start.files plan_file) start end said) (instance_in before.files instance) before after result

-- What is left in the files by what an input means: by its value, and all as before where it is refused.
abbrev pub LeavesBy : {X : Type 0} → (X → Files → Files → Type 0) → Result X (List ℕ) → Files → Files → Type 0
LeavesBy leaves (Ok value) before after = leaves value before after
LeavesBy leaves (Err line) before after = after ≡ before

-- The same by the problem in one file and its plan in another.
abbrev pub LeavesFromPlan : (Instance → Choices → Files → Files → Type 0) → (instance plan_file : List ℕ) → Files → Files → Type 0
LeavesFromPlan leaves instance plan_file before after =
    LeavesBy (λ p start end. LeavesBy (leaves p) (plan_in p start plan_file) start end) (instance_in before instance) before after
