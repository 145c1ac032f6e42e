-- What `picture` answers and leaves, by the readings of its inputs.
use Rattle.base.proofs.Public.{◌≡◌, ℕ, List, ◌++◌, Option, Some, Ok, refl, ap, inl, inr, OnOk, Result, Err}
use Rattle.slices.specs.declared.rule.Broken.{Broken}
use Rattle.command_report.specs.Prelude.{Choices, Files, HasPicture, Instance, IsCut, IsDrawn, IsVerdict, LeavesFromPlan, LeavesPictured, OthersStay, outside, Pictures, Status, verdict_line, verdict_status}
use Rattle.command_frame.proofs.Public.{left_unread}

-- ---- the file

-- the picture is written, where nothing was refused
pub has_picture : {T E : Type 0} (picture_file : List ℕ) (p : Instance) (plan : Choices) (before after : Files) (text shown : List ℕ) (result : Result T E) → IsDrawn p plan text → shown ≡ text → OthersStay picture_file before after → OnOk result (after picture_file ≡ Some shown) → OnOk result (HasPicture picture_file p plan before after)
has_picture picture_file p plan before after text shown (Ok x) drawn is others whole = record { text = text; drawn = drawn; written = record { whole = rw is at whole; others = others } }
has_picture picture_file p plan before after text shown (Err e) drawn is others whole = tt

-- what is left of it
pub picture_cut : (picture_file : List ℕ) (p : Instance) (plan : Choices) (before after : Files) (text : List ℕ) → IsDrawn p plan text → IsCut (before picture_file) text (after picture_file) → OthersStay picture_file before after → LeavesPictured picture_file p plan before after
picture_cut picture_file p plan before after text drawn cut others = inr (record { text = text; drawn = drawn; cut = record { cut = cut; others = others } })

-- the picture is written, and its verdict is said
pub pictured : (picture_file : List ℕ) (p : Instance) (plan : Choices) (answer : Option Broken) (before after : Files) (printed line : List ℕ) (said : Status) → IsVerdict p plan answer → HasPicture picture_file p plan before after → line ≡ verdict_line p plan answer → said ≡ verdict_status answer → Pictures picture_file p plan (outside before printed) (outside after (printed ++ line)) said
pictured picture_file p plan answer before after printed line said verdict written text status = record {
  answer = answer;
  verdict = verdict;
  written = written;
  printed = ap (λ l. printed ++ l) text;
  status = status;
}

-- ---- what is left

-- all as it was
pub leaves_nothing : (picture_file instance plan_file : List ℕ) (before after : Files) → after ≡ before → LeavesFromPlan (LeavesPictured picture_file) instance plan_file before after
leaves_nothing picture_file instance plan_file before after kept = left_unread (LeavesPictured picture_file) instance plan_file before after kept (λ p plan. inl refl)
