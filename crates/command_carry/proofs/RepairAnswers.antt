-- What `repair` answers, leaves and takes, by the readings of its inputs and by what became of its plan.
use Rattle.base.proofs.Public.{◌≡◌, ◌≢◌, ◌∙◌, ◌≤◌, ℕ, List, length, ◌++◌, Bool, true, false, Option, Some, None, Ok, String, refl, sym, ap, subst, inl, inr, Global, Result, Err, IsTrue, option_map, string_bytes}
use Rattle.catalogue.specs.Instance.{SoundInstance}
use Rattle.executor.specs.Views.{Execution}
use Rattle.event_lines.specs.declared.faults.LineFault.{LineFault}
use Rattle.repair.specs.Events.{point}
use Rattle.executor.specs.declared.phase.Phase.TheVariants.{Running}
use Rattle.repair.specs.declared.following.Ending.{Ending as Followed}
use Rattle.command_frame.specs.declared.fault.Outcome.{Outcome}
use Rattle.command_carry.specs.Prelude.{Broken, broken_line, bytes_of, Choices, choices_of, cost_of, Element, Ending, Ends, EndsAnyhow, EndsFrom, Fault, Files, first_event, first_phases, FollowGives, HasTexts, Instance, instance_in, instance_of, instance_text, IsExecution, IsFirst, IsFirstBroken, IsGoingOn, IsMonitor, IsOfReading, IsRefusal, IsValid, LastEnds, LeavesEnding, LeavesFromPlan, LeavesRepaired, LeavesRest, LineEnds, max_text_bytes, Outside, outside, outcome_status, Phases, phases_of, plan_in, plan_of, plan_text, PlanChoices, printed_with, repaired_line, Repairs, RepairsBy, RepairsPlan, RepairsTold, running_line, Says, SaysEnding, SaysRest, Starts, Status, StopsAtEnding, StopsInLine, TakesEvents, TakesNothing, Taking, told, TookEvents, TookEventsBy}
use Rattle.command_frame.proofs.Public.{always_anyhow, anyhow_more, ends_more, left_unread, says}
use Rattle.command_carry.proofs.ExecuteAnswers.{broken_is_not_valid}

-- ---- what is left is written

-- the two files hold it, and its line is said
pub repaired : (p : Instance) (plan : Choices) (phases : Phases) (new_instance new_plan : List ℕ) (problem : SoundInstance) (kept : PlanChoices) (before after : Files) (printed line : List ℕ) →
    ((e : Element) → phases e ≢ Running) → IsGoingOn p plan phases problem.given kept →
    HasTexts new_instance (instance_text problem.given) new_plan (plan_text problem.given (Some kept)) before after →
    (length (instance_text problem.given) ≤ max_text_bytes → instance_of (instance_text problem.given) ≡ Ok problem.given) →
    plan_of problem.given (plan_text problem.given (Some kept)) ≡ Ok (Some kept) → line ≡ repaired_line (cost_of problem.given (choices_of kept)) →
    Repairs p plan phases new_instance new_plan (outside before printed) (outside after (printed ++ line)) Status.Good
repaired p plan phases new_instance new_plan problem kept before after printed line nothing goes_on written instance_reads plan_reads text = record {
  nothing_runs = nothing;
  problem = problem.given;
  kept = kept;
  sound = problem.sound;
  goes_on = goes_on;
  written = written;
  instance_reads = λ few. subst (λ (file : Option (List ℕ)). instance_of (bytes_of file) ≡ Ok problem.given) (sym written.first_whole) (instance_reads few);
  plan_reads = subst (λ (file : Option (List ℕ)). plan_of problem.given (bytes_of file) ≡ Ok (Some kept)) (sym written.second_whole) plan_reads;
  printed = ap (λ l. printed ++ l) text;
  status = refl;
}

-- ---- what is said after all events

-- the first action that runs
pub says_running : (p : Instance) (plan : Choices) (phases : Phases) (new_instance new_plan : List ℕ) (e : Element) (files : Files) (printed : List ℕ) → IsFirst p (λ x. phases x ≡ Running) e →
    SaysRest p plan phases new_instance new_plan (outside files printed) (outside files (printed ++ running_line p e)) Status.Negative
unfolding SaysRest
says_running p plan phases new_instance new_plan e files printed first = inl (e, first, says (running_line p e) Status.Negative files files printed refl)

-- what is left
rest_is_left : (p : Instance) (plan : Choices) (phases : Phases) (new_instance new_plan : List ℕ) (before then : Outside) (result : Status) → Repairs p plan phases new_instance new_plan before then result →
    SaysRest p plan phases new_instance new_plan before then result
unfolding SaysRest
rest_is_left p plan phases new_instance new_plan before then result is = inr is

pub says_left : (p : Instance) (plan : Choices) (phases : Phases) (new_instance new_plan : List ℕ) (before after : Outside) (ended : Result Ending Fault) →
    Ends (Repairs p plan phases new_instance new_plan before) after ended → Ends (SaysRest p plan phases new_instance new_plan before) after ended
says_left p plan phases new_instance new_plan before after ended ends =
    ends_more (Repairs p plan phases new_instance new_plan before) (SaysRest p plan phases new_instance new_plan before) after ended (λ then result is. rest_is_left p plan phases new_instance new_plan before then result is) ends

-- ---- what is known of a monitor

-- its phases are those of an execution
pub known_execution : (m : Execution) (p : SoundInstance) (plan : PlanChoices) → IsMonitor m → m.problem ≡ p → m.plan ≡ plan → IsExecution p.given (choices_of plan) (phases_of m)
known_execution m p plan known same same_plan =
    subst (λ (x : SoundInstance). IsExecution x.given (choices_of plan) (phases_of m)) same (subst (λ (y : PlanChoices). IsExecution m.problem.given (choices_of y) (phases_of m)) same_plan known.execution)

-- what is followed of its plan from the first event on
pub from_first : (p : Instance) (own plan : PlanChoices) (start phases : Phases) (bytes rest : List ℕ) (result : Result Followed LineFault) → own ≡ plan → start ≡ first_phases (choices_of plan) →
    FollowGives p (choices_of own) (point start 0 bytes) result phases rest → FollowGives p (choices_of plan) (first_event (choices_of plan) bytes) result phases rest
from_first p own plan start phases bytes rest result same first gives =
    subst (λ (x : Phases). FollowGives p (choices_of plan) (point x 0 bytes) result phases rest) first (subst (λ (y : PlanChoices). FollowGives p (choices_of y) (point start 0 bytes) result phases rest) same gives)

-- ---- by the events

-- what is said by how the reading of the events ends is the answer
pub ends_followed : (tells : Bool) (p : Instance) (plan : Choices) (new_instance new_plan bytes rest : List ℕ) (phases : Phases) (ending : Followed) (before after : Outside) (ended : Result Ending Fault) → IsExecution p plan phases →
    (IsTrue tells → EndsFrom p plan (first_event plan bytes) ending phases rest) → Ends (SaysEnding p plan phases new_instance new_plan ending before) after ended →
    Ends (RepairsTold p plan new_instance new_plan (told tells bytes) before) after ended
ends_followed true p plan new_instance new_plan bytes rest phases ending before after ended execution follows ends =
    ends_more (SaysEnding p plan phases new_instance new_plan ending before) (RepairsTold p plan new_instance new_plan (Some bytes) before) after ended
    (λ then result is. (rest, record { ending = ending; phases = phases; follows = follows refl; says = is })) ends
ends_followed false p plan new_instance new_plan bytes rest phases ending before after ended execution follows ends =
    ends_more (SaysEnding p plan phases new_instance new_plan ending before) (RepairsTold p plan new_instance new_plan None before) after ended
    (λ then result is. record { ending = ending; phases = phases; execution = execution; says = is }) ends

-- what is taken until then
by_said : (p : Instance) (plan : Choices) (new_instance new_plan : List ℕ) (taking : Taking) (before : Outside) (phases : Phases) (ending : Followed) → EndsFrom p plan (first_event plan taking.bytes) ending phases taking.rest →
    (then : Outside) (result : Status) → SaysEnding p plan phases new_instance new_plan ending before then result → RepairsBy p plan new_instance new_plan taking.bytes taking.rest before then result
by_said p plan new_instance new_plan taking before phases ending follows then result is = record { ending = ending; phases = phases; follows = follows; says = is }

line_took : (p : Instance) (plan : Choices) (new_instance new_plan : List ℕ) (taking : Taking) (before after : Outside) (line : List ℕ) (said : Status) → TookEvents p plan new_instance new_plan taking before (outside after.files (after.printed ++ line)) said →
    StopsAtEnding p plan new_instance new_plan taking.bytes taking.rest before.files after.files → LineEnds (TookEvents p plan new_instance new_plan taking before) after line said
line_took p plan new_instance new_plan taking before after line said took stops = record {
  printed = took;
  failed = λ now begun cut. stops;
  memory = λ now begun cut. tt;
}

-- an outcome
took_outcome : (p : Instance) (plan : Choices) (new_instance new_plan : List ℕ) (taking : Taking) (before then : Outside) (phases : Phases) (ending : Followed) (outcome : Outcome) → EndsFrom p plan (first_event plan taking.bytes) ending phases taking.rest →
    SaysEnding p plan phases new_instance new_plan ending before then (outcome_status outcome) → TookEvents p plan new_instance new_plan taking before then (outcome_status outcome)
took_outcome p plan new_instance new_plan taking before then phases ending Outcome.Good follows is = by_said p plan new_instance new_plan taking before phases ending follows then Status.Good is
took_outcome p plan new_instance new_plan taking before then phases ending Outcome.Negative follows is = by_said p plan new_instance new_plan taking before phases ending follows then Status.Negative is
took_outcome p plan new_instance new_plan taking before then phases ending Outcome.Undecided follows is = by_said p plan new_instance new_plan taking before phases ending follows then Status.Undecided is

took_last : (p : Instance) (plan : Choices) (new_instance new_plan : List ℕ) (taking : Taking) (before after : Outside) (phases : Phases) (ending : Followed) (line : Option (String Global)) (outcome : Outcome) →
    EndsFrom p plan (first_event plan taking.bytes) ending phases taking.rest → StopsAtEnding p plan new_instance new_plan taking.bytes taking.rest before.files after.files →
    SaysEnding p plan phases new_instance new_plan ending before (outside after.files (printed_with after.printed line)) (outcome_status outcome) →
    LastEnds (TookEvents p plan new_instance new_plan taking before) after (option_map string_bytes line) (outcome_status outcome)
took_last p plan new_instance new_plan taking before after phases ending None outcome follows stops is = took_outcome p plan new_instance new_plan taking before after phases ending outcome follows is
took_last p plan new_instance new_plan taking before after phases ending (Some line) outcome follows stops is =
    line_took p plan new_instance new_plan taking before after (string_bytes line) (outcome_status outcome) (took_outcome p plan new_instance new_plan taking before (outside after.files (after.printed ++ string_bytes line)) phases ending outcome follows is) stops

-- however it ends
pub took_followed : (p : Instance) (plan : Choices) (new_instance new_plan : List ℕ) (taking : Taking) (before after : Outside) (phases : Phases) (ending : Followed) (ended : Result Ending Fault) → EndsFrom p plan (first_event plan taking.bytes) ending phases taking.rest →
    ended ≢ Err Fault.ReadFault → Ends (SaysEnding p plan phases new_instance new_plan ending before) after ended → LeavesEnding p plan phases new_instance new_plan ending before.files after.files →
    EndsAnyhow (TookEvents p plan new_instance new_plan taking before) after ended
unfolding Ends EndsAnyhow
took_followed p plan new_instance new_plan taking before after phases ending (Ok end) follows no_read ends left =
    took_last p plan new_instance new_plan taking before after phases ending end.line end.outcome follows (record { ending = ending; phases = phases; follows = follows; left = left }) ends
took_followed p plan new_instance new_plan taking before after phases ending (Err Fault.Words) follows no_read ends left =
    line_took p plan new_instance new_plan taking before after _ Status.Words (by_said p plan new_instance new_plan taking before phases ending follows _ Status.Words ends) (record { ending = ending; phases = phases; follows = follows; left = left })
took_followed p plan new_instance new_plan taking before after phases ending (Err (Fault.Input line)) follows no_read ends left =
    line_took p plan new_instance new_plan taking before after (string_bytes line) Status.Input (by_said p plan new_instance new_plan taking before phases ending follows _ Status.Input ends) (record { ending = ending; phases = phases; follows = follows; left = left })
took_followed p plan new_instance new_plan taking before after phases ending (Err Fault.ReadFault) follows no_read ends left = absurd (no_read refl)
took_followed p plan new_instance new_plan taking before after phases ending (Err Fault.WriteFault) follows no_read ends left = record { ending = ending; phases = phases; follows = follows; left = left }
took_followed p plan new_instance new_plan taking before after phases ending (Err Fault.Memory) follows no_read ends left = tt

-- the line of a refused event
pub refusal_ends : (line : List ℕ) (files : Files) (printed : List ℕ) (f : Fault) → IsRefusal f line → Ends (Says line Status.Input (outside files printed)) (outside files printed) (Err f)
unfolding Ends
refusal_ends line files printed Fault.Words is = absurd is
refusal_ends line files printed (Fault.Input text) is = rw is (says line Status.Input files files printed refl)
refusal_ends line files printed Fault.ReadFault is = absurd is
refusal_ends line files printed Fault.WriteFault is = absurd is
refusal_ends line files printed Fault.Memory is = tt

pub refusal_is_no_read : (f : Fault) (line : List ℕ) → IsRefusal f line → ◌≢◌ {A = Result Ending Fault} (Err f) (Err Fault.ReadFault)
refusal_is_no_read Fault.Words line is = absurd is
refusal_is_no_read (Fault.Input text) line is = λ e. cc
refusal_is_no_read Fault.ReadFault line is = absurd is
refusal_is_no_read Fault.WriteFault line is = absurd is
refusal_is_no_read Fault.Memory line is = λ e. cc

-- where the reading stops
pub took_stopped : (p : Instance) (plan : Choices) (new_instance new_plan : List ℕ) (taking : Taking) (files : Files) (printed : List ℕ) (phases : Phases) → StopsInLine p plan (first_event plan taking.bytes) phases taking.rest →
    EndsAnyhow (TookEvents p plan new_instance new_plan taking (outside files printed)) (outside files printed) (Err Fault.ReadFault)
unfolding EndsAnyhow
took_stopped p plan new_instance new_plan taking files printed phases stops = inr (record { phases = phases; stops = stops; printed = refl; files = refl })

pub took_no_memory : (p : Instance) (plan : Choices) (new_instance new_plan : List ℕ) (taking : Taking) (before after : Outside) → EndsAnyhow (TookEvents p plan new_instance new_plan taking before) after (Err Fault.Memory)
unfolding EndsAnyhow
took_no_memory p plan new_instance new_plan taking before after = tt

-- what is left by a valid plan
pub leaves_some : (p : Instance) (plan : Choices) (phases : Phases) (new_instance new_plan : List ℕ) (before after : Files) → IsValid p plan → IsExecution p plan phases → LeavesRest p plan phases new_instance new_plan before after → LeavesRepaired new_instance new_plan p plan before after
leaves_some p plan phases new_instance new_plan before after valid execution (inl same) = inl same
leaves_some p plan phases new_instance new_plan before after valid execution (inr cut) = inr (phases, valid, execution, cut)

-- ---- by the plan

-- the first broken rule
pub repairs_broken : (source : Option (List ℕ)) (new_instance new_plan : List ℕ) (p : Instance) (plan : Choices) (broken : Broken) (files : Files) (printed : List ℕ) → IsFirstBroken p plan broken →
    RepairsPlan source new_instance new_plan p plan (outside files printed) (outside files (printed ++ broken_line p broken)) Status.Negative
unfolding RepairsPlan
repairs_broken source new_instance new_plan p plan broken files printed first = inl (broken, first, says (broken_line p broken) Status.Negative files files printed refl)

-- what follows of a valid plan
plan_is_valid : (source : Option (List ℕ)) (new_instance new_plan : List ℕ) (p : Instance) (plan : Choices) (before then : Outside) (result : Status) → IsValid p plan → RepairsTold p plan new_instance new_plan source before then result →
    RepairsPlan source new_instance new_plan p plan before then result
unfolding RepairsPlan
plan_is_valid source new_instance new_plan p plan before then result valid is = inr (valid, is)

pub repairs_valid : (source : Option (List ℕ)) (new_instance new_plan : List ℕ) (p : Instance) (plan : Choices) (before after : Outside) (ended : Result Ending Fault) → IsValid p plan →
    Ends (RepairsTold p plan new_instance new_plan source before) after ended → Ends (RepairsPlan source new_instance new_plan p plan before) after ended
repairs_valid source new_instance new_plan p plan before after ended valid ends =
    ends_more (RepairsTold p plan new_instance new_plan source before) (RepairsPlan source new_instance new_plan p plan before) after ended (λ then result is. plan_is_valid source new_instance new_plan p plan before then result valid is) ends

pub took_valid : (p : Instance) (plan : Choices) (new_instance new_plan : List ℕ) (taking : Taking) (before after : Outside) (ended : Result Ending Fault) →
    EndsAnyhow (TookEvents p plan new_instance new_plan taking before) after ended → EndsAnyhow (TookEventsBy p plan new_instance new_plan taking before) after ended
took_valid p plan new_instance new_plan taking before after ended took =
    anyhow_more (TookEvents p plan new_instance new_plan taking before) (TookEventsBy p plan new_instance new_plan taking before) after ended (λ then result is valid. is) took

pub took_broken : (p : Instance) (plan : Choices) (new_instance new_plan : List ℕ) (taking : Taking) (before after : Outside) (broken : Broken) (ended : Result Ending Fault) → IsFirstBroken p plan broken →
    EndsAnyhow (TookEventsBy p plan new_instance new_plan taking before) after ended
took_broken p plan new_instance new_plan taking before after broken ended first =
    always_anyhow (TookEventsBy p plan new_instance new_plan taking before) after ended (λ then result valid. absurd (broken_is_not_valid p plan broken first valid))

-- ---- what is left in the files

-- all as it was
pub leaves_nothing : (new_instance new_plan instance plan_file : List ℕ) (before after : Files) → after ≡ before → LeavesFromPlan (LeavesRepaired new_instance new_plan) instance plan_file before after
leaves_nothing new_instance new_plan instance plan_file before after kept = left_unread (LeavesRepaired new_instance new_plan) instance plan_file before after kept (λ p plan. inl refl)

-- ---- what is taken

-- what holds of a plan that is read holds of the files' plan
of_read : (instance plan_file new_instance new_plan : List ℕ) (taking : Taking) (before after : Outside) (p : Instance) (plan : Choices) (result : Status) → instance_in before.files instance ≡ Ok p →
    plan_in p before.files plan_file ≡ Ok plan → TookEventsBy p plan new_instance new_plan taking before after result → TakesEvents instance plan_file new_instance new_plan taking before after result
unfolding TakesEvents
of_read instance plan_file new_instance new_plan taking before after p plan result read plan_read took q other q_read other_read =
    let same : p ≡ q = ok_is_one p q (sym read ∙ q_read) in
    let same_plan : plan ≡ other = ok_is_one plan other (sym (subst (λ (x : Instance). plan_in x before.files plan_file ≡ Ok plan) same plan_read) ∙ other_read) in
    subst (λ (x : Instance). TookEventsBy x other new_instance new_plan taking before after result) same (subst (λ (x : Choices). TookEventsBy p x new_instance new_plan taking before after result) same_plan took)
  where
    ok_is_one : {X : Type 0} (x y : X) → ◌≡◌ {A = Result X (List ℕ)} (Ok x) (Ok y) → x ≡ y
    ok_is_one x y e = cc

-- what is taken of the events is what the command takes
pub takes_followed : (instance plan_file new_instance new_plan : List ℕ) (taking : Taking) (before after : Outside) (p : Instance) (plan : Choices) (ended : Result Ending Fault) → instance_in before.files instance ≡ Ok p →
    plan_in p before.files plan_file ≡ Ok plan → EndsAnyhow (TookEventsBy p plan new_instance new_plan taking before) after ended →
    EndsAnyhow (TakesEvents instance plan_file new_instance new_plan taking before) after ended
takes_followed instance plan_file new_instance new_plan taking before after p plan ended read plan_read took =
    anyhow_more (TookEventsBy p plan new_instance new_plan taking before) (TakesEvents instance plan_file new_instance new_plan taking before) after ended
    (λ then result took. of_read instance plan_file new_instance new_plan taking before then p plan result read plan_read took) took

not_read : (instance plan_file new_instance new_plan : List ℕ) (taking : Taking) (before after : Outside) (result : Status) → ¬ Starts before.files instance plan_file → TakesEvents instance plan_file new_instance new_plan taking before after result
unfolding TakesEvents Starts
not_read instance plan_file new_instance new_plan taking before after result refused p plan read plan_read valid = absurd (refused (p, plan, read, plan_read, valid))

nothing_taken : (instance plan_file new_instance new_plan : List ℕ) (taking : Taking) (before after : Outside) → TakesNothing taking before.printed after.printed → TakesEvents instance plan_file new_instance new_plan taking before after Status.ReadFault
unfolding TakesEvents
nothing_taken instance plan_file new_instance new_plan taking before after nothing p plan read plan_read valid = inl nothing

no_memory : (instance plan_file new_instance new_plan : List ℕ) (taking : Taking) (before after : Outside) → TakesEvents instance plan_file new_instance new_plan taking before after Status.Memory
unfolding TakesEvents
no_memory instance plan_file new_instance new_plan taking before after p plan read plan_read valid = tt

-- where an input was refused or not read, nothing is taken
pub takes_unread : (instance plan_file new_instance new_plan : List ℕ) (taking : Taking) (before after : Outside) (f : Fault) → IsOfReading f → TakesNothing taking before.printed after.printed →
    ((line : String Global) → f ≡ Fault.Input line → ¬ Starts before.files instance plan_file) → EndsAnyhow (TakesEvents instance plan_file new_instance new_plan taking before) after (Err f)
unfolding EndsAnyhow
takes_unread instance plan_file new_instance new_plan taking before after Fault.Words kind nothing refused = absurd kind
takes_unread instance plan_file new_instance new_plan taking before after (Fault.Input line) kind nothing refused =
    let no = refused line refl in
    record {
      printed = not_read instance plan_file new_instance new_plan taking before _ _ no;
      failed = λ now begun cut. not_read instance plan_file new_instance new_plan taking before _ _ no;
      memory = λ now begun cut. not_read instance plan_file new_instance new_plan taking before _ _ no;
    }
takes_unread instance plan_file new_instance new_plan taking before after Fault.ReadFault kind nothing refused = nothing_taken instance plan_file new_instance new_plan taking before after nothing
takes_unread instance plan_file new_instance new_plan taking before after Fault.WriteFault kind nothing refused = absurd kind
takes_unread instance plan_file new_instance new_plan taking before after Fault.Memory kind nothing refused = no_memory instance plan_file new_instance new_plan taking before after
