-- What `execute` answers and takes, by the readings of its inputs and by its transcript.
use Rattle.base.proofs.Public.{◌≡◌, ℕ, List, ◌++◌, Bool, true, false, Option, Some, None, Ok, String, refl, sym, subst, ◌∙◌, inl, inr, Global, StartsWith, whole, longer, longer_text, Result, Err, IsTrue, string_bytes}
use Rattle.command_carry.specs.Prelude.{Broken, broken_line, Choices, choices_of, Conclusion, conclusion_line, conclusion_status, Done, Ending, EndsAnyhow, ExecuteFault, ExecuteGives, Executes, Fault, Files, first_point, Instance, instance_in, IsBegun, IsFirstBroken, IsOfReading, IsPartOfAnswer, IsPlanOf, IsValid, LineEnds, NotValid, Outside, outside, plan_in, PlanChoices, PrintsPrefixOf, Reads, Refused, RunGives, Starts, Status, StoppedEnd, StoppedFail, TakesNothing, TakesRead, Taking, told, Took, TookBy, WriteFault}
use Rattle.transcript.specs.declared.conclusion.ExecuteFault.TheVariants.{ReadFault, Memory}
use Rattle.executor.proofs.Public.{begins_well}
use Rattle.transcript.proofs.Public.{faults_leave_a_beginning}
use Rattle.command_frame.proofs.Public.{anyhow_more}

-- ---- by the transcript

-- a plan of which a rule is broken is not valid
pub broken_is_not_valid : (p : Instance) (plan : Choices) (broken : Broken) → IsFirstBroken p plan broken → ¬ IsValid p plan
unfolding IsValid
broken_is_not_valid p plan broken first valid = first.rule.broken (valid broken.at first.in_time broken.rule first.rule.in_range)

-- a conclusion is the answer
pub executes_conclusion : (tells : Bool) (p : Instance) (plan : Choices) (bytes rest before written : List ℕ) (c : Conclusion) (files : Files) → IsValid p plan →
    (IsTrue tells → ExecuteGives p plan bytes before (Ok c) rest written) →
    Executes (told tells bytes) p plan (outside files before) (outside files (written ++ conclusion_line p c)) (conclusion_status c)
unfolding Executes
executes_conclusion true p plan bytes rest before written c files valid gives =
    inr (valid, refl, (rest, record { conclusion = c; written = written; ends = (gives refl).1; printed = refl; status = refl }))
executes_conclusion false p plan bytes rest before written c files valid gives = inr (valid, refl, tt)

-- so is the first broken rule
pub executes_broken : (source : Option (List ℕ)) (p : Instance) (plan : Choices) (broken : Broken) (files : Files) (before : List ℕ) → IsFirstBroken p plan broken →
    Executes source p plan (outside files before) (outside files (before ++ broken_line p broken)) Status.Negative
unfolding Executes
executes_broken source p plan broken files before first = inl (broken, first, record { printed = refl; status = refl; files = refl })

-- what is written before a conclusion, a broken rule or a fault is the beginning of an answer
pub part_of_conclusion : (tells : Bool) (p : Instance) (plan : Choices) (bytes rest before written : List ℕ) (c : Conclusion) (files : Files) → IsValid p plan →
    (IsTrue tells → ExecuteGives p plan bytes before (Ok c) rest written) → IsPartOfAnswer (told tells bytes) p plan files before written
part_of_conclusion tells p plan bytes rest before written c files valid gives = record {
  whole = written ++ conclusion_line p c;
  result = conclusion_status c;
  answered = executes_conclusion tells p plan bytes rest before written c files valid gives;
  prefix = longer written (conclusion_line p c);
}

pub part_of_broken : (source : Option (List ℕ)) (p : Instance) (plan : Choices) (broken : Broken) (files : Files) (before written : List ℕ) → IsFirstBroken p plan broken →
    written ≡ before → IsPartOfAnswer source p plan files before written
part_of_broken source p plan broken files before written first same = record {
  whole = before ++ broken_line p broken;
  result = Status.Negative;
  answered = executes_broken source p plan broken files before first;
  prefix = subst (λ (x : List ℕ). StartsWith (before ++ broken_line p broken) x) (sym same) (longer before (broken_line p broken));
}

untold : (p : Instance) (plan : Choices) (files : Files) (before written : List ℕ) → IsValid p plan → IsPartOfAnswer None p plan files before written
unfolding Executes
untold p plan files before written valid = record { whole = written; result = Status.Good; answered = inr (valid, refl, tt); prefix = whole written }

begun : (p : Instance) (plan : Choices) (files : Files) (bytes before written : List ℕ) → IsValid p plan → IsBegun p plan (first_point plan bytes before) written →
    IsPartOfAnswer (Some bytes) p plan files before written
unfolding Executes
begun p plan files bytes before written valid b = record {
  whole = b.whole ++ conclusion_line p b.conclusion;
  result = conclusion_status b.conclusion;
  answered = inr (valid, refl, (b.rest, record { conclusion = b.conclusion; written = b.whole; ends = b.ends; printed = refl; status = refl }));
  prefix = longer_text b.whole (conclusion_line p b.conclusion) written b.prefix;
}

pub part_of_fault : (tells : Bool) (p : Instance) (plan : PlanChoices) (bytes rest before written : List ℕ) (f : ExecuteFault) (files : Files) → IsPlanOf p plan → IsValid p (choices_of plan) →
    (IsTrue tells → ExecuteGives p (choices_of plan) bytes before (Err f) rest written) → IsPartOfAnswer (told tells bytes) p (choices_of plan) files before written
part_of_fault false p plan bytes rest before written f files is valid gives = untold p (choices_of plan) files before written valid
part_of_fault true p plan bytes rest before written f files is valid gives =
    begun p (choices_of plan) files bytes before written valid
    (faults_leave_a_beginning p plan is (first_point (choices_of plan) bytes before) (begins_well p (choices_of plan)) f rest written (run f (gives refl)))
  where
    run : (f : ExecuteFault) → ExecuteGives p (choices_of plan) bytes before (Err f) rest written → RunGives p (choices_of plan) (first_point (choices_of plan) bytes before) (Err f) rest written
    run (NotValid broken) h = absurd (broken_is_not_valid p (choices_of plan) broken h.0 valid)
    run ReadFault h = h.1
    run WriteFault h = h.1
    run Memory h = h.1

-- ---- what is taken

took_status : (p : Instance) (plan : Choices) (taking : Taking) (before written : List ℕ) (c : Conclusion) → ExecuteGives p plan taking.bytes before (Ok c) taking.rest written →
    Took p plan taking before (written ++ conclusion_line p c) (conclusion_status c)
took_status p plan taking before written Done gives = record { conclusion = Done; written = written; ends = gives.1; printed = refl; status = refl }
took_status p plan taking before written (StoppedFail e) gives = record { conclusion = StoppedFail e; written = written; ends = gives.1; printed = refl; status = refl }
took_status p plan taking before written StoppedEnd gives = record { conclusion = StoppedEnd; written = written; ends = gives.1; printed = refl; status = refl }
took_status p plan taking before written (Refused n f) gives = record { conclusion = Refused n f; written = written; ends = gives.1; printed = refl; status = refl }

pub took_conclusion : (p : Instance) (plan : Choices) (taking : Taking) (before written : List ℕ) (c : Conclusion) (files : Files) →
    ExecuteGives p plan taking.bytes before (Ok c) taking.rest written →
    LineEnds (TookBy p plan taking before) (outside files written) (conclusion_line p c) (conclusion_status c)
took_conclusion p plan taking before written c files gives = record {
  printed = λ valid. took_status p plan taking before written c gives;
  failed = λ now begun cut valid. inr (record { conclusion = c; written = written; ends = gives.1; begun = begun; cut = cut });
  memory = λ now begun cut valid. tt;
}

pub took_broken : (p : Instance) (plan : Choices) (taking : Taking) (before line : List ℕ) (broken : Broken) (after : Outside) (said : Status) → IsFirstBroken p plan broken →
    LineEnds (TookBy p plan taking before) after line said
took_broken p plan taking before line broken after said first =
    let not_valid = broken_is_not_valid p plan broken first in
    record { printed = λ valid. absurd (not_valid valid); failed = λ now begun cut valid. absurd (not_valid valid); memory = λ now begun cut valid. absurd (not_valid valid) }

pub took_read : (p : Instance) (plan : Choices) (taking : Taking) (before : List ℕ) (after : Outside) → ExecuteGives p plan taking.bytes before (Err ReadFault) taking.rest after.printed →
    EndsAnyhow (TookBy p plan taking before) after (Err Fault.ReadFault)
unfolding EndsAnyhow
took_read p plan taking before after gives = λ valid. inr gives.1

pub took_write : (p : Instance) (plan : Choices) (taking : Taking) (before : List ℕ) (after : Outside) → ExecuteGives p plan taking.bytes before (Err WriteFault) taking.rest after.printed →
    EndsAnyhow (TookBy p plan taking before) after (Err Fault.WriteFault)
unfolding EndsAnyhow
took_write p plan taking before after gives = λ valid. inl gives.1

pub took_memory : (p : Instance) (plan : Choices) (taking : Taking) (before : List ℕ) (after : Outside) → EndsAnyhow (TookBy p plan taking before) after (Err Fault.Memory)
unfolding EndsAnyhow
took_memory p plan taking before after = λ valid. tt

-- ---- what is printed

-- a part of the answer is printed
pub part_printed : (source : Option (List ℕ)) (p : Instance) (plan : Choices) (files : Files) (printed now : List ℕ) → StartsWith now printed → IsPartOfAnswer source p plan files printed now →
    PrintsPrefixOf (Executes source p plan (outside files printed)) (outside files printed) (outside files now)
unfolding PrintsPrefixOf
part_printed source p plan files printed now stays part = (stays, inr (record { whole = part.whole; result = part.result; answered = part.answered; prefix = part.prefix }))

-- ---- what is taken, by the readings

-- what holds of a plan that is read holds of the files' plan
of_read : (instance plan_file : List ℕ) (taking : Taking) (before after : Outside) (p : Instance) (plan : Choices) (result : Status) → instance_in before.files instance ≡ Ok p →
    plan_in p before.files plan_file ≡ Ok plan → TookBy p plan taking before.printed after result → TakesRead instance plan_file taking before after result
unfolding TakesRead
of_read instance plan_file taking before after p plan result read plan_read took q other q_read other_read =
    let same : p ≡ q = ok_is_one p q (sym read ∙ q_read) in
    let same_plan : plan ≡ other = ok_is_one plan other (sym (subst (λ (x : Instance). plan_in x before.files plan_file ≡ Ok plan) same plan_read) ∙ other_read) in
    subst (λ (x : Instance). TookBy x other taking before.printed after result) same (subst (λ (x : Choices). TookBy p x taking before.printed after result) same_plan took)
  where
    ok_is_one : {X : Type 0} (x y : X) → ◌≡◌ {A = Result X (List ℕ)} (Ok x) (Ok y) → x ≡ y
    ok_is_one x y e = cc

not_read : (instance plan_file : List ℕ) (taking : Taking) (before after : Outside) (result : Status) → ¬ Starts before.files instance plan_file → TakesRead instance plan_file taking before after result
unfolding TakesRead Starts
not_read instance plan_file taking before after result refused p plan read plan_read valid = absurd (refused (p, plan, read, plan_read, valid))

nothing_taken : (instance plan_file : List ℕ) (taking : Taking) (before after : Outside) → TakesNothing taking before.printed after.printed → TakesRead instance plan_file taking before after Status.ReadFault
unfolding TakesRead
nothing_taken instance plan_file taking before after nothing p plan read plan_read valid = inl nothing

no_memory : (instance plan_file : List ℕ) (taking : Taking) (before after : Outside) → TakesRead instance plan_file taking before after Status.Memory
unfolding TakesRead
no_memory instance plan_file taking before after p plan read plan_read valid = tt

-- where an input was refused or not read, nothing is taken
pub takes_unread : (instance plan_file : List ℕ) (taking : Taking) (before after : Outside) (f : Fault) → IsOfReading f → TakesNothing taking before.printed after.printed →
    ((line : String Global) → f ≡ Fault.Input line → ¬ Starts before.files instance plan_file) → EndsAnyhow (TakesRead instance plan_file taking before) after (Err f)
unfolding EndsAnyhow
takes_unread instance plan_file taking before after Fault.Words kind nothing refused = absurd kind
takes_unread instance plan_file taking before after (Fault.Input line) kind nothing refused =
    let no = refused line refl in
    record {
      printed = not_read instance plan_file taking before _ _ no;
      failed = λ now begun cut. not_read instance plan_file taking before _ _ no;
      memory = λ now begun cut. not_read instance plan_file taking before _ _ no;
    }
takes_unread instance plan_file taking before after Fault.ReadFault kind nothing refused = nothing_taken instance plan_file taking before after nothing
takes_unread instance plan_file taking before after Fault.WriteFault kind nothing refused = absurd kind
takes_unread instance plan_file taking before after Fault.Memory kind nothing refused = no_memory instance plan_file taking before after

-- a refused instance or plan has no valid plan
pub no_instance : (files : Files) (instance plan_file line : List ℕ) → instance_in files instance ≡ Err line → ¬ Starts files instance plan_file
unfolding Starts
no_instance files instance plan_file line read starts = value_is_no_line starts.0 line (sym starts.2 ∙ read)
  where
    value_is_no_line : (p : Instance) (line : List ℕ) → ◌≡◌ {A = Result Instance (List ℕ)} (Ok p) (Err line) → ⊥
    value_is_no_line p line e = cc

pub no_plan : (files : Files) (instance plan_file line : List ℕ) (p : Instance) → instance_in files instance ≡ Ok p → plan_in p files plan_file ≡ Err line → ¬ Starts files instance plan_file
unfolding Starts
no_plan files instance plan_file line p read plan_read starts =
    let same : p ≡ starts.0 = value_is_one p starts.0 (sym read ∙ starts.2) in
    value_is_no_line starts.1 line (sym starts.3 ∙ subst (λ (x : Instance). plan_in x files plan_file ≡ Err line) same plan_read)
  where
    value_is_one : (p q : Instance) → ◌≡◌ {A = Result Instance (List ℕ)} (Ok p) (Ok q) → p ≡ q
    value_is_one p q e = cc

    value_is_no_line : (plan : Choices) (line : List ℕ) → ◌≡◌ {A = Result Choices (List ℕ)} (Ok plan) (Err line) → ⊥
    value_is_no_line plan line e = cc

-- a plan that was refused is no valid plan
pub no_plan_there : {X : Type 0} (view : X → Choices) (files : Files) (instance plan_file : List ℕ) (p : Instance) (f : Fault) → instance_in files instance ≡ Ok p →
    ((◌≡◌ {A = Result X Fault} (Err f) (Err Fault.ReadFault) → ⊥) → Reads {X = X} view (Err f) (plan_in p files plan_file)) →
    (line : String Global) → f ≡ Fault.Input line → ¬ Starts files instance plan_file
no_plan_there {X} view files instance plan_file p f read reads line is = no_plan files instance plan_file (string_bytes line) p read (refused f line is reads)
  where
    refused : (f : Fault) (line : String Global) → f ≡ Fault.Input line →
        ((◌≡◌ {A = Result X Fault} (Err f) (Err Fault.ReadFault) → ⊥) → Reads {X = X} view (Err f) (plan_in p files plan_file)) → plan_in p files plan_file ≡ Err (string_bytes line)
    refused f line is reads =
        let there : (◌≡◌ {A = Result X Fault} (Err (Fault.Input line)) (Err Fault.ReadFault) → ⊥) → Reads {X = X} view (Err (Fault.Input line)) (plan_in p files plan_file) = rw is at reads in
        there (λ e. cc)

-- where the plan was refused or not read, nothing is taken
pub takes_no_plan : {X : Type 0} (view : X → Choices) (instance plan_file : List ℕ) (taking : Taking) (before after : Outside) (p : Instance) (f : Fault) → IsOfReading f →
    TakesNothing taking before.printed after.printed → instance_in before.files instance ≡ Ok p →
    ((◌≡◌ {A = Result X Fault} (Err f) (Err Fault.ReadFault) → ⊥) → Reads {X = X} view (Err f) (plan_in p before.files plan_file)) →
    EndsAnyhow (TakesRead instance plan_file taking before) after (Err f)
takes_no_plan {X} view instance plan_file taking before after p f kind nothing read reads =
    takes_unread instance plan_file taking before after f kind nothing (no_plan_there view before.files instance plan_file p f read reads)

-- what an execution takes is what the command takes
pub takes_executed : (instance plan_file : List ℕ) (taking : Taking) (before after : Outside) (p : Instance) (plan : Choices) (ended : Result Ending Fault) → instance_in before.files instance ≡ Ok p →
    plan_in p before.files plan_file ≡ Ok plan → EndsAnyhow (TookBy p plan taking before.printed) after ended → EndsAnyhow (TakesRead instance plan_file taking before) after ended
takes_executed instance plan_file taking before after p plan ended read plan_read took =
    anyhow_more (TookBy p plan taking before.printed) (TakesRead instance plan_file taking before) after ended
    (λ then result took. of_read instance plan_file taking before then p plan result read plan_read took) took

-- a valid plan that is read starts
pub starts : (files : Files) (instance plan_file : List ℕ) (p : Instance) (plan : Choices) → instance_in files instance ≡ Ok p → plan_in p files plan_file ≡ Ok plan → IsValid p plan →
    Starts files instance plan_file
unfolding Starts
starts files instance plan_file p plan read plan_read valid = (p, plan, read, plan_read, valid)
