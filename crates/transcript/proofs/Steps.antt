-- What the parts of a run do to where it stands.
use Rattle.base.proofs.Public.{◌≡◌, ◌≢◌, inl, inr, ℕ, suc, ◌+◌, List, Bool, true, false, Option, Some, None, Ok, refl, sym, ap, subst, ◌∙◌, false≢true, Result, Err, IsTrue}
use Rattle.transcript.specs.Prelude.{AllEnded, Already, BeginsLine, BeginsStart, Choices, choices_of, Conclusion, Done, Element, element_named, End, EndsAt, EventGives, EventKind, ExecuteFault, ExecuteGives, Fail, first_phases, first_point, Instance, inventory_of, IsDue, IsEvent, IsFirst, IsStep, IsValid, MayStart, Memory, NotReady, NotRunning, NotValid, Phase, Phases, PlanChoices, Point, point, Reaches, ReadFault, ReadsLine, Refused, RunGives, Running, Start, StartGives, StepFault, StopGives as Stops, StoppedEnd, StoppedFail, StopsInEvent, StopsInStart, TakeGives, TakesEvent, WriteFault}
use Rattle.executor.specs.Answers.{StartGives as Starts}
use Rattle.cluster.proofs.Public.{listed-element_named}
use Rattle.event_lines.specs.declared.{faults.EventFault.EventFault, lines.Line.Line}
use Rattle.executor.proofs.Public.{end_left, not_hindered, start_left, steps_left}

-- ---- a start

-- a start that is due is taken
pub starts : {T : Type 0} (p : Instance) (plan : Choices) (before after : Phases) (e : Element) (result : Result T StepFault) → IsFirst p (MayStart p plan before) e →
    Starts p plan before e after result → IsStep p plan before (Start e) after
starts p plan before after e (Ok done) first step = step
starts p plan before after e (Err Already) first step = absurd (step.0 first.here.waiting)
starts p plan before after e (Err (NotReady x)) first step = absurd (not_hindered p plan before e x first.here step.1)
starts p plan before after e (Err NotRunning) first step = absurd step

-- ---- an event

-- what is refused does not run
pub stops_not : (T : Type 0) (before after : Phases) (e : Element) (f : Phase) (fault : StepFault) → Stops {T = T} before e f after (Err fault) → before e ≢ Running
stops_not T before after e f Already h = absurd h
stops_not T before after e f (NotReady x) h = absurd h
stops_not T before after e f NotRunning h = h.0

-- the event of a line that was taken
taken : (p : Instance) (plan : Choices) (phases : Phases) (lines : ℕ) (bytes text rest written name : List ℕ) (kind : EventKind) (e : Element) → IsDue p plan phases →
    ReadsLine bytes Line.Whole text rest → IsEvent text kind name → element_named (inventory_of p) name ≡ Some e → TakesEvent p plan (point phases lines bytes written) kind e rest
taken p plan phases lines bytes text rest written name kind e due line event named =
    record { due = due; text = text; name = name; line = line; event = event; named = named }

-- what a whole line does
pub takes_event : (told : Bool) (p : Instance) (plan : Choices) (number : ℕ) (before after : Phases) (bytes text rest : List ℕ) (given : Option Conclusion) → IsDue p plan before →
    (IsTrue told → ReadsLine bytes Line.Whole text rest) → EventGives p before number text after given → TakeGives told p plan number before bytes after rest (Ok given)
takes_event told p plan number before after bytes text rest None due line event = (
  event.1,
  (listed-element_named (inventory_of p) event.0 event.1 event.3).0,
  (event.4, event.5),
  λ t lines written. taken p plan before lines bytes text rest written event.0 End event.1 due (line t) event.2 event.3,
)
takes_event told p plan number before after bytes text rest (Some Done) due line event = absurd event
takes_event told p plan number before after bytes text rest (Some (StoppedFail e)) due line event = (
  (listed-element_named (inventory_of p) event.0 e event.2).0,
  λ t lines written is. (taken p plan before lines bytes text rest written event.0 Fail e due (line t) event.1 event.2, event.3),
)
takes_event told p plan number before after bytes text rest (Some StoppedEnd) due line event = absurd event
takes_event told p plan number before after bytes text rest (Some (Refused n EventFault.NotALine)) due line event = (
  tt,
  λ t lines written is. (
    due,
    event.0 ∙ is,
    (text, inr (line t, event.1)),
  ),
)
takes_event told p plan number before after bytes text rest (Some (Refused n EventFault.TooLong)) due line event = absurd event
takes_event told p plan number before after bytes text rest (Some (Refused n EventFault.NoSuchName)) due line event = (
  tt,
  λ t lines written is. (
    due,
    event.0 ∙ is,
    (text, event.1, event.2, line t, event.3, event.4),
  ),
)
takes_event told p plan number before after bytes text rest (Some (Refused n EventFault.NotReady)) due line event = absurd event
takes_event told p plan number before after bytes text rest (Some (Refused n EventFault.NotRunning)) due line event = (
  tt,
  λ t lines written is. (
    due,
    event.0 ∙ is,
    (event.1, event.3, taken p plan before lines bytes text rest written event.2 event.1 event.3 due (line t) event.4 event.5, event.6),
  ),
)

-- a line that is too long, that is cut short, or that is not there
pub takes_long : (told : Bool) (p : Instance) (plan : Choices) (number : ℕ) (before : Phases) (bytes text rest : List ℕ) → IsDue p plan before →
    (IsTrue told → ReadsLine bytes Line.TooLong text rest) → TakeGives told p plan number before bytes before rest (Ok (Some (Refused number EventFault.TooLong)))
takes_long told p plan number before bytes text rest due line = (tt, λ t lines written is. (due, is, (text, line t)))

pub takes_short : (told : Bool) (p : Instance) (plan : Choices) (number : ℕ) (before : Phases) (bytes text rest : List ℕ) → IsDue p plan before →
    (IsTrue told → ReadsLine bytes Line.Short text rest) → TakeGives told p plan number before bytes before rest (Ok (Some (Refused number EventFault.NotALine)))
takes_short told p plan number before bytes text rest due line = (tt, λ t lines written is. (due, is, (text, inl (line t))))

pub takes_nothing : (told : Bool) (p : Instance) (plan : Choices) (number : ℕ) (before : Phases) (bytes text rest : List ℕ) → IsDue p plan before →
    (IsTrue told → ReadsLine bytes Line.Nothing text rest) → TakeGives told p plan number before bytes before rest (Ok (Some StoppedEnd))
takes_nothing told p plan number before bytes text rest due line = (tt, λ t lines written is. (due, ((line t).0, (line t).1, refl)))

-- ---- turns

-- a start was written and made
pub after_start : (told : Bool) (p : Instance) (plan other : PlanChoices) (first : Point) (before after : Phases) (lines : ℕ) (rest old new : List ℕ) (started : Bool) →
    other ≡ plan → StartGives told p (choices_of other) before old after new (Ok started) → started ≡ true → IsTrue told →
    Reaches p (choices_of plan) first (point before lines rest old) → Reaches p (choices_of plan) first (point after lines rest new)
after_start told p plan other first before after lines rest old new false same gives is t reached = absurd (false≢true is)
after_start told p plan other first before after lines rest old new true same gives is t reached =
    let h : StartGives told p (choices_of plan) before old after new (Ok true) =
    subst (λ (x : PlanChoices). StartGives told p (choices_of x) before old after new (Ok true)) same gives
    in (
      suc reached.0,
      (
        point before lines rest old,
        reached.1,
        inl (record { element = h.0; ready = h.1; step = h.2; lines = refl; rest = refl; written = h.3 t }),
      ),
    )

-- nothing could start
pub after_quiet : (told : Bool) (p : Instance) (plan other : PlanChoices) (first : Point) (before after : Phases) (lines : ℕ) (rest old new : List ℕ) (started : Bool) →
    StartGives told p (choices_of other) before old after new (Ok started) → started ≡ false → IsTrue told →
    Reaches p (choices_of plan) first (point before lines rest old) → Reaches p (choices_of plan) first (point after lines rest new)
after_quiet told p plan other first before after lines rest old new true gives is t reached = absurd (false≢true (sym is))
after_quiet told p plan other first before after lines rest old new false gives is t reached =
    subst (λ (x : List ℕ). Reaches p (choices_of plan) first (point after lines rest x)) (sym (gives.2 t))
    (subst (λ (x : Phases). Reaches p (choices_of plan) first (point x lines rest old)) (sym gives.1) reached)

-- where nothing could start and an action has not ended, an event line is due
pub due_after : (told : Bool) (p : Instance) (plan other : PlanChoices) (before after : Phases) (old new : List ℕ) (started : Bool) →
    other ≡ plan → StartGives told p (choices_of other) before old after new (Ok started) → started ≡ false → ¬ AllEnded before → IsDue p (choices_of plan) after
due_after told p plan other before after old new true same gives is unended = absurd (false≢true (sym is))
due_after told p plan other before after old new false same gives is unended =
    let due : IsDue p (choices_of other) before = record { quiet = gives.0; unended = unended } in
    subst (λ (x : Phases). IsDue p (choices_of plan) x) (sym gives.1) (subst (λ (x : PlanChoices). IsDue p (choices_of x) before) same due)

-- the line of an end was taken
pub after_end : (told : Bool) (p : Instance) (plan other : PlanChoices) (first : Point) (before after : Phases) (lines number : ℕ) (old new written : List ℕ) (given : Option Conclusion) →
    other ≡ plan → TakeGives told p (choices_of other) number before old after new (Ok given) → given ≡ None → IsTrue told →
    Reaches p (choices_of plan) first (point before lines old written) → Reaches p (choices_of plan) first (point after (lines + 1) new written)
after_end told p plan other first before after lines number old new written (Some conclusion) same gives is t reached = cc
after_end told p plan other first before after lines number old new written None same gives is t reached =
    let h : TakeGives told p (choices_of plan) number before old after new (Ok None) =
    subst (λ (x : PlanChoices). TakeGives told p (choices_of x) number before old after new (Ok None)) same gives
    in (
      suc reached.0,
      (
        point before lines old written,
        reached.1,
        inr (record { element = h.0; event = h.3 t lines written; step = h.2; lines = refl; written = refl }),
      ),
    )

-- ---- how it stops

-- all have ended
pub all_done : (p : Instance) (plan : Choices) (first : Point) (phases : Phases) (lines : ℕ) (rest written : List ℕ) → AllEnded phases →
    Reaches p plan first (point phases lines rest written) → RunGives p plan first (Ok Done) rest written
all_done p plan first phases lines rest written all reached =
    record { last = point phases lines rest written; reached = reached; ends = (all, refl); all = refl }

-- the line that is due is a conclusion
pub line_ends : (told : Bool) (p : Instance) (plan other : PlanChoices) (first : Point) (before after : Phases) (lines number : ℕ) (old new written : List ℕ) (given : Option Conclusion) (c : Conclusion) →
    other ≡ plan → TakeGives told p (choices_of other) number before old after new (Ok given) → given ≡ Some c → number ≡ lines + 1 → IsTrue told →
    Reaches p (choices_of plan) first (point before lines old written) → RunGives p (choices_of plan) first (Ok c) new written
line_ends told p plan other first before after lines number old new written None c same gives is next t reached = cc
line_ends told p plan other first before after lines number old new written (Some d) c same gives is next t reached =
    let h : TakeGives told p (choices_of plan) number before old after new (Ok (Some d)) =
    subst (λ (x : PlanChoices). TakeGives told p (choices_of x) number before old after new (Ok (Some d))) same gives
    in
    let one : d ≡ c = cc in
    record {
      last = point before lines old written;
      reached = reached;
      ends = subst (λ (x : Conclusion). EndsAt p (choices_of plan) (point before lines old written) x new) one (h.1 t lines written next);
      all = refl;
    }

-- the line of a start was not taken whole
pub stops_in_start : (told : Bool) (p : Instance) (plan other : PlanChoices) (first : Point) (before after : Phases) (lines : ℕ) (rest old new : List ℕ) (f : ExecuteFault) →
    other ≡ plan → StartGives told p (choices_of other) before old after new (Err f) → IsTrue told →
    Reaches p (choices_of plan) first (point before lines rest old) → RunGives p (choices_of plan) first (Err f) rest new
stops_in_start told p plan other first before after lines rest old new f same gives t reached =
    by f (subst (λ (x : PlanChoices). StartGives told p (choices_of x) before old after new (Err f)) same gives)
  where
    stops : BeginsStart p (choices_of plan) told before old new → StopsInStart p (choices_of plan) first rest new
    stops h = record {
      last = point before lines rest old;
      reached = reached;
      element = h.element;
      ready = h.ready;
      left = refl;
      begun = h.begun t;
      cut = h.cut t;
    }

    by : (f : ExecuteFault) → StartGives told p (choices_of plan) before old after new (Err f) → RunGives p (choices_of plan) first (Err f) rest new
    by (NotValid broken) h = absurd h
    by ReadFault h = absurd h
    by WriteFault h = stops h
    by Memory h = inr (inr (stops h))

-- the line that is due could not be read
pub stops_in_event : (told : Bool) (p : Instance) (plan other : PlanChoices) (first : Point) (before after : Phases) (lines number : ℕ) (old new written : List ℕ) (f : ExecuteFault) →
    other ≡ plan → IsDue p (choices_of plan) before → TakeGives told p (choices_of other) number before old after new (Err f) → IsTrue told →
    Reaches p (choices_of plan) first (point before lines old written) → RunGives p (choices_of plan) first (Err f) new written
stops_in_event told p plan other first before after lines number old new written f same due gives t reached = by f gives
  where
    stops : BeginsLine old new → StopsInEvent p (choices_of plan) first new written
    stops h = record { last = point before lines old written; reached = reached; due = due; begun = h; all = refl }

    by : (f : ExecuteFault) → TakeGives told p (choices_of other) number before old after new (Err f) → RunGives p (choices_of plan) first (Err f) new written
    by (NotValid broken) h = absurd h
    by ReadFault h = stops (h t)
    by WriteFault h = absurd h
    by Memory h = inr (inl (stops (h t)))

-- ---- steps that are left

-- fewer after a start
pub start_fewer : (told : Bool) (p : Instance) (plan : Choices) (before after : Phases) (old new : List ℕ) (started : Bool) → StartGives told p plan before old after new (Ok started) →
    started ≡ true → steps_left p after + 1 ≡ steps_left p before
start_fewer told p plan before after old new false gives is = absurd (false≢true is)
start_fewer told p plan before after old new true gives is = start_left p plan before after gives.0 gives.1.listed gives.2

-- as many where nothing could start
pub quiet_same : (told : Bool) (p : Instance) (plan : Choices) (before after : Phases) (old new : List ℕ) (started : Bool) → StartGives told p plan before old after new (Ok started) →
    started ≡ false → steps_left p after ≡ steps_left p before
quiet_same told p plan before after old new true gives is = absurd (false≢true (sym is))
quiet_same told p plan before after old new false gives is = ap (steps_left p) gives.1

-- fewer after an end
pub end_fewer : (told : Bool) (p : Instance) (plan : Choices) (number : ℕ) (before after : Phases) (old new : List ℕ) (given : Option Conclusion) →
    TakeGives told p plan number before old after new (Ok given) → given ≡ None → steps_left p after + 1 ≡ steps_left p before
end_fewer told p plan number before after old new (Some c) gives is = cc
end_fewer told p plan number before after old new None gives is = end_left p plan before after gives.0 gives.1 gives.2

-- ---- from the first point

-- nothing was done yet
pub stops_at_first : (p : Instance) (plan : Choices) (first : Point) → RunGives p plan first (Err Memory) first.rest first.written
stops_at_first p plan first = inl (record { last = first; reached = (0, refl); left = refl; all = refl })

-- the run of a valid plan is its execution
pub executes : (p : Instance) (plan : PlanChoices) (phases : Phases) (bytes before rest written : List ℕ) (result : Result Conclusion ExecuteFault) → phases ≡ first_phases (choices_of plan) →
    IsValid p (choices_of plan) → RunGives p (choices_of plan) (point phases 0 bytes before) result rest written → ExecuteGives p (choices_of plan) bytes before result rest written
executes p plan phases bytes before rest written result same valid run =
    by result (subst (λ (x : Phases). RunGives p (choices_of plan) (point x 0 bytes before) result rest written) same run)
  where
    by : (r : Result Conclusion ExecuteFault) → RunGives p (choices_of plan) (first_point (choices_of plan) bytes before) r rest written → ExecuteGives p (choices_of plan) bytes before r rest written
    by (Ok c) h = (valid, h)
    by (Err (NotValid broken)) h = absurd h
    by (Err ReadFault) h = (valid, h)
    by (Err WriteFault) h = (valid, h)
    by (Err Memory) h = (valid, h)
