-- What `checkparts` answers, by the readings of its inputs and what the check gives.
use Rattle.base.proofs.Public.{◌≡◌, ◌≢◌, ℕ, List, ◌++◌, Option, Result, Ok, Err, IfOk, IfErr, IfSome, refl, option_map}
use Rattle.command_frame.proofs.Public.{answers_refused, answers_well, ends_more, ends_with_line, says}
use Rattle.part_check.specs.Verdicts.{GivesOfParts, IsSoundOfWhole}
use Rattle.part_check.specs.declared.verdict.{PartsFault.PartsFault, PartsVerdict.PartsVerdict}
use Rattle.cert_read.specs.declared.line.LineFault.{LineFault}
use Rattle.command_checkparts.specs.Prelude.{any_plan_in, certificates_in, ChecksGroups, ChecksParts, ChecksPlan, Choices, choices_of, Ending, Ends, Fault, Files, Instance, IsCheckedByParts, IsLastLine, IsOfReading, IsPartsRefusal, IsPlanOf, IsRefusal, NodeSet, not_a_line, Outside, outside, parts_line, parts_status, PlanChoices, SaysParts, short_line, Split, split_in, Status, too_long_line}

-- ---- what the check gives

module _ (p : Instance) (groups : List NodeSet) (split : Split p groups) (plan : Option PlanChoices) (plan_is : IfSome plan (IsPlanOf p)) (text : List ℕ) (files : Files) (printed : List ℕ) where
  abbrev answer : Outside → Status → Type 0
  answer = ChecksParts p groups (option_map choices_of plan) text (outside files printed)

  checks : (given : Result PartsVerdict PartsFault) (said : List ℕ) (status_said : Status) → GivesOfParts p groups plan text given → IfOk given (IsSoundOfWhole p plan) →
      SaysParts given (outside files printed) (outside files (printed ++ said)) status_said → answer (outside files (printed ++ said)) status_said
  checks given said status_said gives sound is = record { split = split; plan = plan; plan_is = plan_is; choices_are = refl; given = given; gives = gives; sound = sound; says = is }

  -- the line of a verdict is due
  pub verdict_ends : (verdict : PartsVerdict) (ended : Result Ending Fault) → GivesOfParts p groups plan text (Ok verdict) → IsSoundOfWhole p plan verdict → IsLastLine ended (parts_line verdict) (parts_status verdict) → Ends answer (outside files printed) ended
  verdict_ends verdict ended gives sound is =
      ends_with_line answer (outside files printed) (parts_line verdict) (parts_status verdict) ended is
      (checks (Ok verdict) (parts_line verdict) (parts_status verdict) gives sound (says (parts_line verdict) (parts_status verdict) files files printed refl))

  -- a line that refuses a section
  refused : (f : Fault) (said : List ℕ) → IsRefusal f said → answer (outside files (printed ++ said)) Status.Input → Ends answer (outside files printed) (Err f)
  unfolding Ends
  refused Fault.Words said is stands = absurd is
  refused (Fault.Input line) said is stands = rw is stands
  refused Fault.ReadFault said is stands = absurd is
  refused Fault.WriteFault said is stands = absurd is
  refused Fault.Memory said is stands = tt

  -- want of memory has no line
  memory : (f : Fault) → f ≡ Fault.Memory → Ends answer (outside files printed) (Err f)
  unfolding Ends
  memory f is = rw is tt

  -- it is due
  pub fault_ends : (what : PartsFault) (f : Fault) → GivesOfParts p groups plan text (Err what) → IsPartsRefusal f what → Ends answer (outside files printed) (Err f)
  fault_ends (PartsFault.Line part (LineFault.NotALine number)) f gives is =
      refused f (not_a_line part number) is (checks (Err (PartsFault.Line part (LineFault.NotALine number))) (not_a_line part number) Status.Input gives tt (says (not_a_line part number) Status.Input files files printed refl))
  fault_ends (PartsFault.Line part (LineFault.TooLong number)) f gives is =
      refused f (too_long_line part number) is (checks (Err (PartsFault.Line part (LineFault.TooLong number))) (too_long_line part number) Status.Input gives tt (says (too_long_line part number) Status.Input files files printed refl))
  fault_ends (PartsFault.Line part LineFault.Short) f gives is =
      refused f (short_line part) is (checks (Err (PartsFault.Line part LineFault.Short)) (short_line part) Status.Input gives tt (says (short_line part) Status.Input files files printed refl))
  fault_ends (PartsFault.Line part LineFault.ReadFault) f gives is = memory f is
  fault_ends (PartsFault.Line part LineFault.Memory) f gives is = memory f is
  fault_ends PartsFault.Memory f gives is = memory f is

-- ---- no read fails where the certificates are there

pub last_kind : (said : List ℕ) (status_said : Status) (ended : Result Ending Fault) → IsLastLine ended said status_said → IfErr ended IsOfReading
last_kind said status_said (Ok ending) is = tt
last_kind said status_said (Err Fault.Words) is = absurd is
last_kind said status_said (Err (Fault.Input line)) is = tt
last_kind said status_said (Err Fault.ReadFault) is = absurd is
last_kind said status_said (Err Fault.WriteFault) is = absurd is
last_kind said status_said (Err Fault.Memory) is = tt

pub last_reads : (said : List ℕ) (status_said : Status) (ended : Result Ending Fault) → IsLastLine ended said status_said → ended ≢ Err Fault.ReadFault
last_reads said status_said (Ok ending) is e = cc
last_reads said status_said (Err Fault.Words) is e = absurd is
last_reads said status_said (Err (Fault.Input line)) is e = cc
last_reads said status_said (Err Fault.ReadFault) is e = absurd is
last_reads said status_said (Err Fault.WriteFault) is e = absurd is
last_reads said status_said (Err Fault.Memory) is e = cc

-- the fault is one of the input, or want of memory
abbrev Judges : Fault → Type 0
Judges f = IsOfReading f × (f ≢ Fault.ReadFault)

refusal_judges : (f : Fault) (said : List ℕ) → IsRefusal f said → Judges f
refusal_judges Fault.Words said is = absurd is
refusal_judges (Fault.Input line) said is = (tt, λ e. cc)
refusal_judges Fault.ReadFault said is = absurd is
refusal_judges Fault.WriteFault said is = absurd is
refusal_judges Fault.Memory said is = (tt, λ e. cc)

memory_judges : (f : Fault) → f ≡ Fault.Memory → Judges f
memory_judges f is = rw is (tt, λ e. cc)

fault_judges : (what : PartsFault) (f : Fault) → IsPartsRefusal f what → Judges f
fault_judges (PartsFault.Line part (LineFault.NotALine number)) f is = refusal_judges f (not_a_line part number) is
fault_judges (PartsFault.Line part (LineFault.TooLong number)) f is = refusal_judges f (too_long_line part number) is
fault_judges (PartsFault.Line part LineFault.Short) f is = refusal_judges f (short_line part) is
fault_judges (PartsFault.Line part LineFault.ReadFault) f is = memory_judges f is
fault_judges (PartsFault.Line part LineFault.Memory) f is = memory_judges f is
fault_judges PartsFault.Memory f is = memory_judges f is

pub fault_kind : (what : PartsFault) (f : Fault) → IsPartsRefusal f what → IsOfReading f
fault_kind what f is = (fault_judges what f is).0

pub fault_reads : (what : PartsFault) (f : Fault) → IsPartsRefusal f what → f ≢ Fault.ReadFault
fault_reads what f is = (fault_judges what f is).1

-- ---- by the file of the certificates

pub refused_certificates : (certificate : List ℕ) (p : Instance) (groups : List NodeSet) (plan : Option Choices) (before after : Files) (printed line : List ℕ) → after ≡ before → certificates_in before certificate ≡ Err line →
    ChecksPlan certificate p groups plan (outside before printed) (outside after (printed ++ line)) Status.Input
refused_certificates certificate p groups plan before after printed line kept read =
    answers_refused (ChecksParts p groups plan) _ line _ _ _ read (says line Status.Input before after printed kept)

pub ends_certificates : (certificate : List ℕ) (p : Instance) (groups : List NodeSet) (plan : Option Choices) (text : List ℕ) (before after : Files) (printed : List ℕ) (ended : Result Ending Fault) → after ≡ before → certificates_in before certificate ≡ Ok text →
    ((files : Files) → Ends (ChecksParts p groups plan text (outside files printed)) (outside files printed) ended) → Ends (ChecksPlan certificate p groups plan (outside before printed)) (outside after printed) ended
ends_certificates certificate p groups plan text before after printed ended kept read ends =
    ends_more (ChecksParts p groups plan text (outside before printed)) (ChecksPlan certificate p groups plan (outside before printed)) (outside after printed) ended
    (λ then result is. answers_well (ChecksParts p groups plan) _ text _ _ _ read is) (rw kept (ends before))

-- ---- by the file of the plan

pub refused_plan : (plan_file certificate : List ℕ) (p : Instance) (groups : List NodeSet) (before after : Files) (printed line : List ℕ) → after ≡ before → any_plan_in p before plan_file ≡ Err line →
    ChecksGroups plan_file certificate p groups (outside before printed) (outside after (printed ++ line)) Status.Input
refused_plan plan_file certificate p groups before after printed line kept read =
    answers_refused (ChecksPlan certificate p groups) _ line _ _ _ read (says line Status.Input before after printed kept)

pub ends_plan : (plan_file certificate : List ℕ) (p : Instance) (groups : List NodeSet) (plan : Option Choices) (before between after : Files) (printed : List ℕ) (ended : Result Ending Fault) → between ≡ before → any_plan_in p before plan_file ≡ Ok plan →
    Ends (ChecksPlan certificate p groups plan (outside between printed)) (outside after printed) ended → Ends (ChecksGroups plan_file certificate p groups (outside before printed)) (outside after printed) ended
ends_plan plan_file certificate p groups plan before between after printed ended kept read ends =
    ends_more (ChecksPlan certificate p groups plan (outside before printed)) (ChecksGroups plan_file certificate p groups (outside before printed)) (outside after printed) ended
    (λ then result is. answers_well (ChecksPlan certificate p groups) _ plan _ _ _ read is) (rw kept at ends)

-- ---- by the file of the groups

pub refused_groups : (groups_file plan_file certificate : List ℕ) (p : Instance) (before after : Files) (printed line : List ℕ) → after ≡ before → split_in p before groups_file ≡ Err line →
    IsCheckedByParts groups_file plan_file certificate p (outside before printed) (outside after (printed ++ line)) Status.Input
refused_groups groups_file plan_file certificate p before after printed line kept read =
    answers_refused (ChecksGroups plan_file certificate p) _ line _ _ _ read (says line Status.Input before after printed kept)

pub ends_split : (groups_file plan_file certificate : List ℕ) (p : Instance) (groups : List NodeSet) (before between after : Files) (printed : List ℕ) (ended : Result Ending Fault) → between ≡ before → split_in p before groups_file ≡ Ok groups →
    Ends (ChecksGroups plan_file certificate p groups (outside between printed)) (outside after printed) ended → Ends (IsCheckedByParts groups_file plan_file certificate p (outside before printed)) (outside after printed) ended
ends_split groups_file plan_file certificate p groups before between after printed ended kept read ends =
    ends_more (ChecksGroups plan_file certificate p groups (outside before printed)) (IsCheckedByParts groups_file plan_file certificate p (outside before printed)) (outside after printed) ended
    (λ then result is. answers_well (ChecksGroups plan_file certificate p) _ groups _ _ _ read is) (rw kept at ends)
