-- What `check` answers, by the readings of its inputs and what the check gives.
use Rattle.base.proofs.Public.{◌≡◌, ◌∙◌, ℕ, Bool, List, ◌++◌, Option, Some, Ok, refl, sym, inl, inr, append_assoc, decimal, codes, Result, Err, IfOk, IfErr}
use Rattle.command_decide.specs.Prelude.{any_plan_in, bytes_of, CheckFault, CheckGives, Checks, Choices, CountsCheck, Ending, Ends, Fault, Files, Instance, IsChecked, IsLastLine, IsLineRefusal, IsOfReading, IsRefusal, IsSound, LineFault, not_a_line, outside, ReadCauses, SaysGiven, short_line, Status, too_long_line, undecided_line, Verdict, verdict_line, verdict_status}
use Rattle.command_frame.proofs.Public.{answers_refused, answers_well, ends_more, ends_with_line, says}

-- ---- a verdict

-- the line of a yes with a least cost
pub with_least : (count least : ℕ) (given : Option ℕ) (line : List ℕ) → given ≡ Some least →
    line ≡ codes "yes undecided " ++ (decimal count ++ (codes " least " ++ (decimal least ++ codes "\n"))) → line ≡ undecided_line count given
with_least count least given line is e =
    let whole : codes "yes undecided " ++ decimal count ++ codes " least " ++ decimal least ++ codes "\n" ≡ codes "yes undecided " ++ (decimal count ++ (codes " least " ++ (decimal least ++ codes "\n"))) =
    append_assoc (codes "yes undecided " ++ decimal count ++ codes " least ") (decimal least) (codes "\n")
    ∙ append_assoc (codes "yes undecided " ++ decimal count) (codes " least ") (decimal least ++ codes "\n")
    ∙ append_assoc (codes "yes undecided ") (decimal count) (codes " least " ++ (decimal least ++ codes "\n")) in
    rw is (e ∙ sym whole)

-- its line is due
pub verdict_ends : (p : Instance) (certificate : List ℕ) (strict : Bool) (plan : Option Choices) (before after : Files) (printed : List ℕ) (verdict : Verdict) (ended : Result Ending Fault) →
    after ≡ before → CheckGives p plan strict (bytes_of (before certificate)) (Ok verdict) → IsSound p plan verdict → IsLastLine ended (verdict_line verdict) (verdict_status verdict) →
    Ends (Checks p certificate strict plan (outside before printed)) (outside after printed) ended
verdict_ends p certificate strict plan before after printed verdict ended kept gives sound is =
    ends_with_line (Checks p certificate strict plan (outside before printed)) (outside after printed) (verdict_line verdict) (verdict_status verdict) ended is
    (record { given = Ok verdict; gives = gives; sound = sound; says = says (verdict_line verdict) (verdict_status verdict) before after printed kept })

-- it is no fault of the outside
pub verdict_causes : (before now : ℕ) (said : List ℕ) (status_said : Status) (ended : Result Ending Fault) → now ≡ before → IsLastLine ended said status_said → ReadCauses before now ended
verdict_causes before now said status_said (Ok ending) kept is = record { failed = λ e. absurd (cc); kept = inl kept }
verdict_causes before now said status_said (Err Fault.Words) kept is = absurd is
verdict_causes before now said status_said (Err (Fault.Input text)) kept is = record { failed = λ e. absurd (cc); kept = inl kept }
verdict_causes before now said status_said (Err Fault.ReadFault) kept is = absurd is
verdict_causes before now said status_said (Err Fault.WriteFault) kept is = absurd is
verdict_causes before now said status_said (Err Fault.Memory) kept is = record { failed = λ e. absurd (cc); kept = inl kept }

pub verdict_kind : (said : List ℕ) (status_said : Status) (ended : Result Ending Fault) → IsLastLine ended said status_said → IfErr ended IsOfReading
verdict_kind said status_said (Ok ending) is = tt
verdict_kind said status_said (Err Fault.Words) is = absurd is
verdict_kind said status_said (Err (Fault.Input text)) is = tt
verdict_kind said status_said (Err Fault.ReadFault) is = absurd is
verdict_kind said status_said (Err Fault.WriteFault) is = absurd is
verdict_kind said status_said (Err Fault.Memory) is = tt

-- ---- a line that cannot be read

-- the fault of a line is the last line
refusal_is_last : (f : Fault) (said : List ℕ) → IsRefusal f said → IsLastLine (Err f) said Status.Input
refusal_is_last Fault.Words said is = absurd is
refusal_is_last (Fault.Input text) said is = (is, refl)
refusal_is_last Fault.ReadFault said is = absurd is
refusal_is_last Fault.WriteFault said is = absurd is
refusal_is_last Fault.Memory said is = tt

-- it is due
pub line_ends : (p : Instance) (certificate : List ℕ) (strict : Bool) (plan : Option Choices) (before after : Files) (printed : List ℕ) (what : LineFault) (f : Fault) →
    after ≡ before → CheckGives p plan strict (bytes_of (before certificate)) (Err (CheckFault.Line what)) → IsLineRefusal f what →
    Ends (Checks p certificate strict plan (outside before printed)) (outside after printed) (Err f)
unfolding Ends
line_ends p certificate strict plan before after printed what f kept gives is = by_fault what gives is
  where
    checks : (given : Result Verdict CheckFault) (said : List ℕ) → CheckGives p plan strict (bytes_of (before certificate)) given → IfOk given (IsSound p plan)
        → SaysGiven given (outside before printed) (outside after (printed ++ said)) Status.Input → Checks p certificate strict plan (outside before printed) (outside after (printed ++ said)) Status.Input
    checks given said gives sound says = record { given = given; gives = gives; sound = sound; says = says }

    ends : (said : List ℕ) → IsRefusal f said → Checks p certificate strict plan (outside before printed) (outside after (printed ++ said)) Status.Input → Ends (Checks p certificate strict plan (outside before printed)) (outside after printed) (Err f)
    ends said is stands = ends_with_line (Checks p certificate strict plan (outside before printed)) (outside after printed) said Status.Input (Err f) (refusal_is_last f said is) stands

    by_fault : (what : LineFault) → CheckGives p plan strict (bytes_of (before certificate)) (Err (CheckFault.Line what)) → IsLineRefusal f what → Ends (Checks p certificate strict plan (outside before printed)) (outside after printed) (Err f)
    by_fault (LineFault.NotALine number) gives is = ends (not_a_line number) is (checks _ _ gives tt (says (not_a_line number) Status.Input before after printed kept))
    by_fault (LineFault.TooLong number) gives is = ends (too_long_line number) is (checks _ _ gives tt (says (too_long_line number) Status.Input before after printed kept))
    by_fault LineFault.Short gives is = ends short_line is (checks _ _ gives tt (says short_line Status.Input before after printed kept))
    by_fault LineFault.ReadFault gives is = rw is tt
    by_fault LineFault.Memory gives is = rw is tt

-- only a failed read raises the count
refused_causes : (before now : ℕ) (f : Fault) (said : List ℕ) → now ≡ before → IsRefusal f said → ReadCauses {T = Ending} before now (Err f)
refused_causes before now f said kept is = verdict_causes before now said Status.Input (Err f) kept (refusal_is_last f said is)

pub line_causes : (before now : ℕ) (what : LineFault) (f : Fault) → CountsCheck {A = Verdict} before now (Err (CheckFault.Line what)) → IsLineRefusal f what → ReadCauses {T = Ending} before now (Err f)
line_causes before now (LineFault.NotALine number) f counts is = refused_causes before now f (not_a_line number) counts is
line_causes before now (LineFault.TooLong number) f counts is = refused_causes before now f (too_long_line number) counts is
line_causes before now LineFault.Short f counts is = refused_causes before now f short_line counts is
line_causes before now LineFault.ReadFault f counts is = rw is (record { failed = λ e. counts.1; kept = inr refl })
line_causes before now LineFault.Memory f counts is = rw is (record { failed = λ e. absurd (cc); kept = inl counts })

refused_kind : (f : Fault) (said : List ℕ) → IsRefusal f said → IsOfReading f
refused_kind f said is = verdict_kind said Status.Input (Err f) (refusal_is_last f said is)

pub line_kind : (what : LineFault) (f : Fault) → IsLineRefusal f what → IsOfReading f
line_kind (LineFault.NotALine number) f is = refused_kind f (not_a_line number) is
line_kind (LineFault.TooLong number) f is = refused_kind f (too_long_line number) is
line_kind LineFault.Short f is = refused_kind f short_line is
line_kind LineFault.ReadFault f is = rw is tt
line_kind LineFault.Memory f is = rw is tt

-- ---- by the problem

-- the line that refuses the plan
pub refused_plan : (plan_file certificate : List ℕ) (strict : Bool) (before after : Files) (printed said : List ℕ) (p : Instance) → after ≡ before → any_plan_in p before plan_file ≡ Err said →
    IsChecked plan_file certificate strict p (outside before printed) (outside after (printed ++ said)) Status.Input
refused_plan plan_file certificate strict before after printed said p kept plan_read =
    answers_refused (Checks p certificate strict) _ said _ _ _ plan_read (says said Status.Input before after printed kept)

-- what the check of the certificate gives
pub checked : (plan_file certificate : List ℕ) (strict : Bool) (before between after : Files) (printed : List ℕ) (p : Instance) (plan : Option Choices) (ended : Result Ending Fault) → between ≡ before → any_plan_in p before plan_file ≡ Ok plan →
    Ends (Checks p certificate strict plan (outside between printed)) (outside after printed) ended → Ends (IsChecked plan_file certificate strict p (outside before printed)) (outside after printed) ended
checked plan_file certificate strict before between after printed p plan ended kept read ends =
    ends_more (Checks p certificate strict plan (outside before printed)) (IsChecked plan_file certificate strict p (outside before printed)) (outside after printed) ended
    (λ last result is. answers_well (Checks p certificate strict) _ plan _ _ _ read is) (rw kept at ends)
