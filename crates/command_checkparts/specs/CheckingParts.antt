-- What `checkparts` answers.
use Rattle.std.specs.Prelude.{◌≡◌, ◌++◌, ℕ, List, Option, Result, Ok, Err, IfOk, IfSome, codes, option_map}
use Rattle.std.specs.Fmt.{decimal}
use Rattle.plan_io.specs.Files.{bytes_of, Files}
use Rattle.cluster.specs.declared.sets.NodeSet.{NodeSet}
use Rattle.catalogue.specs.Prelude.{Instance}
use Rattle.slices.specs.Prelude.{Choices, choices_of, IsPlanOf, PlanChoices}
use Rattle.partition.specs.Prelude.{Split}
use Rattle.cert_model.specs.declared.why.Why.{Why}
use Rattle.cert_read.specs.declared.line.LineFault.{LineFault}
use Rattle.part_check.specs.Verdicts.{GivesOfParts, IsSoundOfWhole}
use Rattle.part_check.specs.declared.verdict.{PartsFault.PartsFault, PartsVerdict.PartsVerdict, WholeGoal.WholeGoal}
use Rattle.command_frame.specs.{Answer.AnswersBy, Answer.Outside, Answer.Says, Endings.IsRefusal, Inputs.input_line, Inputs.whole_of, Inputs.Plan.any_plan_in, declared.fault.Fault.Fault, declared.status.Status.Status}
use Rattle.command_decide.specs.Prelude.{why_text}
use Rattle.command_groups.specs.Splitting.{split_in}

-- ---- the words

-- What the certificates show of the whole.
abbrev pub goal_line : WholeGoal → List ℕ
goal_line (WholeGoal.Optimal cost) = codes "yes optimal " ++ decimal cost ++ codes "\n"
goal_line WholeGoal.Infeasible = codes "yes infeasible\n"
goal_line WholeGoal.Undecided = codes "yes undecided\n"

-- The line of a no: the part, the line of its section, and why it does not hold.
abbrev pub part_no_line : (part number : ℕ) (cause : Why) → List ℕ
part_no_line part number cause = codes "no " ++ decimal part ++ codes " " ++ decimal number ++ codes " " ++ why_text cause ++ codes "\n"

-- The line of a verdict.
unfoldable pub parts_line : PartsVerdict → List ℕ
parts_line (PartsVerdict.Yes goal) = goal_line goal
parts_line PartsVerdict.NoSections = codes "no sections\n"
parts_line (PartsVerdict.No part number cause) = part_no_line part number cause

-- Its status.
abbrev pub parts_status : PartsVerdict → Status
parts_status (PartsVerdict.Yes goal) = Status.Good
parts_status PartsVerdict.NoSections = Status.Negative
parts_status (PartsVerdict.No part number cause) = Status.Negative

-- The line that refuses the section of a part.
abbrev pub section_line : (text : List ℕ) → List ℕ
section_line text = input_line (codes "certificate") text

abbrev pub not_a_line : (part number : ℕ) → List ℕ
not_a_line part number = section_line (decimal part ++ (codes " line " ++ decimal number))

abbrev pub too_long_line : (part number : ℕ) → List ℕ
too_long_line part number = section_line (decimal part ++ (codes " line " ++ (decimal number ++ codes " too long")))

abbrev pub short_line : (part : ℕ) → List ℕ
short_line part = section_line (decimal part ++ codes " short")

-- ---- the answer

-- What the check gives is said. Want of memory is no answer, and no read of what stands in memory fails.
abbrev pub SaysParts : Result PartsVerdict PartsFault → Outside → Outside → Status → Type 0
SaysParts (Ok verdict) before after result = Says (parts_line verdict) (parts_status verdict) before after result
SaysParts (Err (PartsFault.Line part (LineFault.NotALine number))) before after result = Says (not_a_line part number) Status.Input before after result
SaysParts (Err (PartsFault.Line part (LineFault.TooLong number))) before after result = Says (too_long_line part number) Status.Input before after result
SaysParts (Err (PartsFault.Line part LineFault.Short)) before after result = Says (short_line part) Status.Input before after result
SaysParts (Err (PartsFault.Line part LineFault.ReadFault)) before after result = ⊥
SaysParts (Err (PartsFault.Line part LineFault.Memory)) before after result = ⊥
SaysParts (Err PartsFault.Memory) before after result = ⊥

-- The certificates of the parts are checked, for a plan of the whole with these choices, or for none: what is said is what their bytes give, a yes means that
-- what it says is so of the whole, and no file changes.
pub record ChecksParts (p : Instance) (groups : List NodeSet) (choices : Option Choices) (text : List ℕ) (before after : Outside) (result : Status) : Type 0 where
  pub split : Split p groups
  pub plan : Option PlanChoices
  pub plan_is : IfSome plan (IsPlanOf p)
  pub choices_are : option_map choices_of plan ≡ choices
  pub given : Result PartsVerdict PartsFault
  pub gives : GivesOfParts p groups plan text given
  pub sound : IfOk given (IsSoundOfWhole p plan)
  pub says : SaysParts given before after result

-- The certificates in the file of this name, or the line that refuses more bytes than the most.
abbrev pub certificates_in : Files → (name : List ℕ) → Result (List ℕ) (List ℕ)
certificates_in files name = whole_of (codes "certificate") (bytes_of (files name))

-- `checkparts` of a problem, by the groups, by the plan of the whole or none, and by the certificates, each in its file.
abbrev pub ChecksPlan : (certificate : List ℕ) → Instance → List NodeSet → Option Choices → Outside → Outside → Status → Type 0
ChecksPlan certificate p groups plan before after result = AnswersBy (ChecksParts p groups plan) (certificates_in before.files certificate) before after result

abbrev pub ChecksGroups : (plan_file certificate : List ℕ) → Instance → List NodeSet → Outside → Outside → Status → Type 0
ChecksGroups plan_file certificate p groups before after result = AnswersBy (ChecksPlan certificate p groups) (any_plan_in p before.files plan_file) before after result

abbrev pub IsCheckedByParts : (groups_file plan_file certificate : List ℕ) → Instance → Outside → Outside → Status → Type 0
IsCheckedByParts groups_file plan_file certificate p before after result =
    AnswersBy (ChecksGroups plan_file certificate p) (split_in p before.files groups_file) before after result

-- ---- helping only: the fault of the command by that of the check

abbrev pub IsPartsRefusal : Fault → PartsFault → Type 0
IsPartsRefusal f (PartsFault.Line part (LineFault.NotALine number)) = IsRefusal f (not_a_line part number)
IsPartsRefusal f (PartsFault.Line part (LineFault.TooLong number)) = IsRefusal f (too_long_line part number)
IsPartsRefusal f (PartsFault.Line part LineFault.Short) = IsRefusal f (short_line part)
IsPartsRefusal f (PartsFault.Line part LineFault.ReadFault) = f ≡ Fault.Memory
IsPartsRefusal f (PartsFault.Line part LineFault.Memory) = f ≡ Fault.Memory
IsPartsRefusal f PartsFault.Memory = f ≡ Fault.Memory
