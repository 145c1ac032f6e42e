-- What is proved of the files that `plan` and `explain` write: `check` says yes to them.
use Rattle.std.specs.Prelude.{◌≡◌, ◌≢◌, ℕ, ◌<◌, ◌≤◌, ◌^◌, Bool, List, length, Option, Some, None, Ok}
use Rattle.catalogue.specs.Instance.{Instance}
use Rattle.instance_make.specs.Prelude.{instance_text, max_text_bytes}
use Rattle.explain.specs.Prelude.{sub}
use Rattle.trees.specs.declared.steps.Goal.TheVariants.{Infeasible, Undecided}
use Rattle.cert_check.specs.declared.verdict.Verdict.TheVariants.{Yes}
use Rattle.command_words.specs.Words.{check}
use Rattle.commands.specs.Commands.{IsAnswer}
use Rattle.command_frame.specs.{Answer.Outside, Answer.Says, Inputs.Instance.instance_in, Inputs.Plan.any_plan_in, declared.status.Status.Status}
use Rattle.command_decide.specs.{Accepted.yes_to, Checking.verdict_line, Planning.IsPlanned}
use Rattle.command_explain.specs.Explaining.{SaysCore, SaysOpen}

-- After `plan` of an instance, which is not overwritten, the answer of `check` to the same files is that yes, strictly or not.
abbrev pub PlannedIsChecked : Type 0
PlannedIsChecked =
    (instance plan_file certificate : List ℕ) (budget : ℕ) → budget < 2 ^ 64 → instance ≢ plan_file → instance ≢ certificate →
    (p : Instance) (before between : Outside) (said : Status) → instance_in before.files instance ≡ Ok p → (planned : IsPlanned plan_file certificate budget p before between said) →
    (start after : Outside) (source : Option (List ℕ)) (strict : Bool) (result : Status) → start.files ≡ between.files → IsAnswer (Some (check instance plan_file certificate strict)) source start after result →
    Says (verdict_line (yes_to p budget planned.found)) Status.Good start after result

-- After `explain` has found a core, the answer of `check` to its two files, and to a plan's file that says that there is none, is that no plan is valid, strictly or not.
-- The core is read where it has no more bytes than an instance may have.
abbrev pub ExplainedIsChecked : Type 0
ExplainedIsChecked =
    (core certificate : List ℕ) (budget : ℕ) → budget < 2 ^ 64 → (p : Instance) (before between : Outside) (said : Status) → (is : SaysCore core certificate budget p before between said) → length (instance_text (sub p is.kept)) ≤ max_text_bytes →
    (plan_file : List ℕ) (start after : Outside) (source : Option (List ℕ)) (strict : Bool) (result : Status) → start.files core ≡ between.files core → start.files certificate ≡ between.files certificate → any_plan_in (sub p is.kept) start.files plan_file ≡ Ok None →
    IsAnswer (Some (check core plan_file certificate strict)) source start after result → Says (verdict_line (Yes Infeasible None)) Status.Good start after result

-- After `explain` has stayed undecided, it is that so many decisions were made, with the least cost that no valid plan undercuts.
abbrev pub LeftOpenIsChecked : Type 0
LeftOpenIsChecked =
    (core certificate : List ℕ) (budget : ℕ) → budget < 2 ^ 64 → (p : Instance) (before between : Outside) (said : Status) → (is : SaysOpen core certificate budget p before between said) → length (instance_text (sub p is.kept)) ≤ max_text_bytes →
    (plan_file : List ℕ) (start after : Outside) (source : Option (List ℕ)) (strict : Bool) (result : Status) → start.files core ≡ between.files core → start.files certificate ≡ between.files certificate → any_plan_in (sub p is.kept) start.files plan_file ≡ Ok None →
    IsAnswer (Some (check core plan_file certificate strict)) source start after result → Says (verdict_line (Yes (Undecided budget) (Some is.is_open.left.least))) Status.Good start after result
