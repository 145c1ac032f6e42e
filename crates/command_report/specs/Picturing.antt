-- What `picture` answers, and what it leaves in the files.
use Rattle.std.specs.Prelude.{◌≡◌, ◌⊎◌, ◌++◌, ℕ, List, Option}
use Rattle.plan_io.specs.Files.{Files}
use Rattle.replay.specs.Prelude.{Choices, Instance, IsVerdict, verdict_line}
use Rattle.picture.specs.Prelude.{IsDrawn}
use Rattle.slices.specs.declared.rule.Broken.{Broken}
use Rattle.command_frame.specs.{Answer.Outside, Answer.AnswersBy, Inputs.Plan.plan_in, Outputs.HasText, Outputs.IsTextCut, declared.status.Status.Status}
use Rattle.command_report.specs.Replaying.{verdict_status}

-- A picture of the plan is written, and no other file changes.
pub record HasPicture (picture_file : List ℕ) (p : Instance) (plan : Choices) (before after : Files) : Type 0 where
  pub text : List ℕ
  pub drawn : IsDrawn p plan text
  pub written : HasText picture_file text before after

-- A picture of the plan is written, also of one that is not valid, and the line is that of the verdict.
pub record Pictures (picture_file : List ℕ) (p : Instance) (plan : Choices) (before after : Outside) (result : Status) : Type 0 where
  pub answer : Option Broken
  pub verdict : IsVerdict p plan answer
  pub written : HasPicture picture_file p plan before.files after.files
  pub printed : after.printed ≡ before.printed ++ verdict_line p plan answer
  pub status : result ≡ verdict_status answer

-- `picture` of a problem, by the plan that its file holds.
abbrev pub IsPictured : (plan_file picture_file : List ℕ) → Instance → Outside → Outside → Status → Type 0
IsPictured plan_file picture_file p before after result = AnswersBy (Pictures picture_file p) (plan_in p before.files plan_file) before after result

-- The file is as before, absent, empty or a prefix of the text of a picture of the plan, and no other file changes.
pub record IsPictureCut (picture_file : List ℕ) (p : Instance) (plan : Choices) (before after : Files) : Type 0 where
  pub text : List ℕ
  pub drawn : IsDrawn p plan text
  pub cut : IsTextCut picture_file text before after

-- However it ends, all is as before, or the file is cut.
abbrev pub LeavesPictured : (picture_file : List ℕ) → Instance → Choices → Files → Files → Type 0
LeavesPictured picture_file p plan before after = (after ≡ before) ⊎ IsPictureCut picture_file p plan before after
