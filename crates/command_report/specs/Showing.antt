-- What `show` answers.
use Rattle.std.specs.Prelude.{◌≡◌, ℕ, List, Option}
use Rattle.show.specs.Prelude.{Choices, Instance, IsShown, IsVerdict}
use Rattle.slices.specs.declared.rule.Broken.{Broken}
use Rattle.command_frame.specs.{Answer.Outside, Answer.AnswersBy, Inputs.Plan.plan_in, declared.status.Status.Status}
use Rattle.command_report.specs.Replaying.{verdict_status}

-- A plan is listed, also one that is not valid, and no file changes.
pub record Lists (p : Instance) (plan : Choices) (before after : Outside) (result : Status) : Type 0 where
  pub answer : Option Broken
  pub verdict : IsVerdict p plan answer
  pub listed : IsShown p plan answer before.printed after.printed
  pub status : result ≡ verdict_status answer
  pub files : after.files ≡ before.files

-- `show` of a problem, by the plan that its file holds.
abbrev pub IsListed : (plan_file : List ℕ) → Instance → Outside → Outside → Status → Type 0
IsListed plan_file p before after result = AnswersBy (Lists p) (plan_in p before.files plan_file) before after result
