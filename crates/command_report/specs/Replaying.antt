-- What `replay` answers.
use Rattle.std.specs.Prelude.{◌≡◌, ◌++◌, ℕ, List, Option, Some, None}
use Rattle.replay.specs.Prelude.{Choices, Instance, IsVerdict, report_text}
use Rattle.slices.specs.declared.rule.Broken.{Broken}
use Rattle.command_frame.specs.{Answer.Outside, Answer.AnswersBy, Inputs.Plan.plan_in, declared.status.Status.Status}

-- The status of a verdict.
abbrev pub verdict_status : Option Broken → Status
verdict_status None = Status.Good
verdict_status (Some broken) = Status.Negative

-- A plan is replayed: its report with the verdict on it, and no file changes.
pub record Replays (p : Instance) (plan : Choices) (before after : Outside) (result : Status) : Type 0 where
  pub answer : Option Broken
  pub verdict : IsVerdict p plan answer
  pub printed : after.printed ≡ before.printed ++ report_text p plan answer
  pub status : result ≡ verdict_status answer
  pub files : after.files ≡ before.files

-- `replay` of a problem, by the plan that its file holds.
abbrev pub IsReplayed : (plan_file : List ℕ) → Instance → Outside → Outside → Status → Type 0
IsReplayed plan_file p before after result = AnswersBy (Replays p) (plan_in p before.files plan_file) before after result
