-- What `check` answers.
use Rattle.std.specs.Prelude.{◌≡◌, ◌++◌, ℕ, Bool, List, Option, Some, None, Result, Ok, Err, IfOk, codes}
use Rattle.std.specs.Fmt.{decimal}
use Rattle.cert_check.specs.Prelude.{bytes_of, CheckGives, Choices, Instance, IsSound}
use Rattle.trees.specs.declared.steps.Goal.TheVariants.{Optimal, Infeasible, Undecided}
use Rattle.cert_model.specs.declared.why.Why.{Why}
use Rattle.cert_read.specs.declared.line.LineFault.{LineFault}
use Rattle.cert_check.specs.declared.verdict.{CheckFault.CheckFault, Verdict.Verdict, Verdict.TheVariants.Yes, Verdict.TheVariants.No}
use Rattle.command_frame.specs.{Answer.Outside, Answer.Says, Answer.AnswersBy, Inputs.input_line, Inputs.Plan.any_plan_in, declared.fault.Fault.Fault, declared.status.Status.Status, Endings.IsRefusal}

-- ---- the words

-- Why a line does not hold.
abbrev pub why_text : Why → List ℕ
why_text Why.Structure = codes "structure"
why_text Why.Name = codes "name"
why_text Why.Part = codes "part"
why_text Why.Reason = codes "reason"
why_text Why.Plan = codes "plan"
why_text Why.Goal = codes "goal"
why_text Why.Lean = codes "lean"

-- The line of a yes to what is undecided, with the least cost that is proved of it, if one is.
abbrev pub undecided_line : (count : ℕ) (least : Option ℕ) → List ℕ
undecided_line count None = codes "yes undecided " ++ decimal count ++ codes "\n"
undecided_line count (Some least) = codes "yes undecided " ++ decimal count ++ codes " least " ++ decimal least ++ codes "\n"

-- The line of a no.
abbrev pub no_line : (number : ℕ) (cause : Why) → List ℕ
no_line number cause = codes "no " ++ decimal number ++ codes " " ++ why_text cause ++ codes "\n"

-- The line of a verdict.
unfoldable pub verdict_line : Verdict → List ℕ
verdict_line (Yes (Optimal cost) least) = codes "yes optimal " ++ decimal cost ++ codes "\n"
verdict_line (Yes Infeasible least) = codes "yes infeasible\n"
verdict_line (Yes (Undecided count) least) = undecided_line count least
verdict_line (No number cause) = no_line number cause

-- Its status.
abbrev pub verdict_status : Verdict → Status
verdict_status (Yes goal least) = Status.Good
verdict_status (No number cause) = Status.Negative

-- The line that refuses a certificate.
abbrev pub certificate_line : (text : List ℕ) → List ℕ
certificate_line text = input_line (codes "certificate") text

abbrev pub not_a_line : ℕ → List ℕ
not_a_line number = certificate_line (codes "line " ++ decimal number)

abbrev pub too_long_line : ℕ → List ℕ
too_long_line number = certificate_line (codes "line " ++ decimal number ++ codes " too long")

abbrev pub short_line : List ℕ
short_line = certificate_line (codes "short")

-- ---- the answer

-- What the check gives is said. A failed read and want of memory are no answer.
abbrev pub SaysGiven : Result Verdict CheckFault → Outside → Outside → Status → Type 0
SaysGiven (Ok verdict) before after result = Says (verdict_line verdict) (verdict_status verdict) before after result
SaysGiven (Err (CheckFault.Line (LineFault.NotALine number))) before after result = Says (not_a_line number) Status.Input before after result
SaysGiven (Err (CheckFault.Line (LineFault.TooLong number))) before after result = Says (too_long_line number) Status.Input before after result
SaysGiven (Err (CheckFault.Line LineFault.Short)) before after result = Says short_line Status.Input before after result
SaysGiven (Err (CheckFault.Line LineFault.ReadFault)) before after result = ⊥
SaysGiven (Err (CheckFault.Line LineFault.Memory)) before after result = ⊥
SaysGiven (Err CheckFault.Memory) before after result = ⊥

-- A certificate is checked: what is said is what its bytes give, a yes means that its goal is so, and no file changes.
pub record Checks (p : Instance) (certificate : List ℕ) (strict : Bool) (plan : Option Choices) (before after : Outside) (result : Status) : Type 0 where
  pub given : Result Verdict CheckFault
  pub gives : CheckGives p plan strict (bytes_of (before.files certificate)) given
  pub sound : IfOk given (IsSound p plan)
  pub says : SaysGiven given before after result

-- `check` of a problem, by the plan that its file holds, or none.
abbrev pub IsChecked : (plan_file certificate : List ℕ) → Bool → Instance → Outside → Outside → Status → Type 0
IsChecked plan_file certificate strict p before after result = AnswersBy (Checks p certificate strict) (any_plan_in p before.files plan_file) before after result

-- ---- helping only: the fault of a command by that of a line

abbrev pub IsLineRefusal : Fault → LineFault → Type 0
IsLineRefusal f (LineFault.NotALine number) = IsRefusal f (not_a_line number)
IsLineRefusal f (LineFault.TooLong number) = IsRefusal f (too_long_line number)
IsLineRefusal f LineFault.Short = IsRefusal f short_line
IsLineRefusal f LineFault.ReadFault = f ≡ Fault.ReadFault
IsLineRefusal f LineFault.Memory = f ≡ Fault.Memory
