-- What the parts of a reading of events do to where it stands.
use Rattle.base.proofs.Public.{◌≡◌, ◌≢◌, inl, inr, ℕ, suc, ◌+◌, List, Bool, Option, Some, None, Ok, Err, IsTrue, refl, subst}
use Rattle.cluster.specs.declared.ids.Element.{Element}
use Rattle.cluster.proofs.Public.{listed-element_named}
use Rattle.event_lines.specs.Lines.{ReadsLine}
use Rattle.event_lines.specs.declared.{faults.EventFault.EventFault, faults.LineFault.LineFault, faults.LineFault.TheVariants.Memory, faults.LineFault.TheVariants.ReadFault, lines.Line.Line}
use Rattle.slices.specs.Prelude.{Choices, choices_of, element_named, Instance, inventory_of, IsElement, PlanChoices}
use Rattle.executor.specs.Answers.{StartGives, StopGives}
use Rattle.executor.specs.Prelude.{IsStep, MayStart, Phases}
use Rattle.executor.specs.declared.phase.Phase.{Phase, TheVariants.Running}
use Rattle.executor.specs.declared.phase.StepFault.{StepFault, TheVariants.Already, TheVariants.NotReady, TheVariants.NotRunning}
use Rattle.executor.proofs.Public.{end_left, fail_left, not_hindered, start_left, steps_left}
use Rattle.repair.specs.Events.{EndsAt, event_of, FollowGives, IsEvent, IsRefused, IsWrong, Point, point, Reaches, Tells}
use Rattle.repair.specs.Parts.{LineDoes, TakeGives}
use Rattle.repair.specs.declared.{following.Ending.Ending, following.Ending.TheVariants.AllRead, following.Ending.TheVariants.Refused}
use Rattle.repair.specs.declared.words.Word.{Word, TheVariants.Start, TheVariants.End, TheVariants.Fail}

-- ---- a whole line

-- a start that is refused is one that may not be, and nothing changes
pub no_start : (T : Type 0) (p : Instance) (plan : Choices) (before after : Phases) (e : Element) (fault : StepFault) → StartGives {T = T} p plan before e after (Err fault) →
    (¬ MayStart p plan before e) × (after ≡ before)
no_start T p plan before after e Already h = (λ may. h.0 may.waiting, h.1)
no_start T p plan before after e (NotReady x) h = (λ may. not_hindered p plan before e x may h.1, h.2)
no_start T p plan before after e NotRunning h = absurd h

-- what is refused an end or a failure does not run, and nothing changes
pub no_stop : (T : Type 0) (before after : Phases) (e : Element) (f : Phase) (fault : StepFault) → StopGives {T = T} before e f after (Err fault) → (before e ≢ Running) × (after ≡ before)
no_stop T before after e f Already h = absurd h
no_stop T before after e f (NotReady x) h = absurd h
no_stop T before after e f NotRunning h = h

-- the event of an element that was found
pub tells : (p : Instance) (text : List ℕ) (word : Word) (name : List ℕ) (e : Element) → IsEvent text word name → element_named (inventory_of p) name ≡ Some e → Tells p text word e
tells p text word name e event named = record { name = name; event = event; named = named }

pub named_listed : (p : Instance) (name : List ℕ) (e : Element) → element_named (inventory_of p) name ≡ Some e → IsElement p e
named_listed p name e named = (listed-element_named (inventory_of p) name e named).0

-- ---- a line is taken

-- a whole line does its event
pub takes_event : (T : Type 0) (told : Bool) (p : Instance) (plan : Choices) (number : ℕ) (before after : Phases) (bytes text rest : List ℕ) (done : T) →
    (IsTrue told → ReadsLine bytes Line.Whole text rest) → LineDoes p plan before text after (Ok done) → TakeGives told p plan number before bytes after rest (Ok None)
takes_event T told p plan number before after bytes text rest done line does = (does.0, does.1, does.2, does.4, λ t. (text, line t, does.3))

-- or it is refused
pub takes_wrong : (T : Type 0) (told : Bool) (p : Instance) (plan : Choices) (number : ℕ) (before after : Phases) (bytes text rest : List ℕ) (f : EventFault) →
    (IsTrue told → ReadsLine bytes Line.Whole text rest) → LineDoes {T = T} p plan before text after (Err f) → TakeGives told p plan number before bytes after rest (Ok (Some (Refused number f)))
takes_wrong T told p plan number before after bytes text rest f line does = (does.1, λ t lines is. (is, by lines f (line t) does.0))
  where
    by : (lines : ℕ) (f : EventFault) → ReadsLine bytes Line.Whole text rest → IsWrong p plan before text f → IsRefused p plan (point before lines bytes) f rest
    by lines EventFault.NotALine line wrong = (text, inr (line, wrong))
    by lines EventFault.TooLong line wrong = absurd wrong
    by lines EventFault.NoSuchName line wrong = (text, line, wrong)
    by lines EventFault.NotReady line wrong = (text, line, wrong)
    by lines EventFault.NotRunning line wrong = (text, line, wrong)

-- a line that is too long, that is cut short, or that is not there
pub takes_long : (told : Bool) (p : Instance) (plan : Choices) (number : ℕ) (before : Phases) (bytes text rest : List ℕ) →
    (IsTrue told → ReadsLine bytes Line.TooLong text rest) → TakeGives told p plan number before bytes before rest (Ok (Some (Refused number EventFault.TooLong)))
takes_long told p plan number before bytes text rest line = (refl, λ t lines is. (is, (text, line t)))

pub takes_short : (told : Bool) (p : Instance) (plan : Choices) (number : ℕ) (before : Phases) (bytes text rest : List ℕ) →
    (IsTrue told → ReadsLine bytes Line.Short text rest) → TakeGives told p plan number before bytes before rest (Ok (Some (Refused number EventFault.NotALine)))
takes_short told p plan number before bytes text rest line = (refl, λ t lines is. (is, (text, inl (line t))))

pub takes_nothing : (told : Bool) (p : Instance) (plan : Choices) (number : ℕ) (before : Phases) (bytes text rest : List ℕ) →
    (IsTrue told → ReadsLine bytes Line.Nothing text rest) → TakeGives told p plan number before bytes before rest (Ok (Some AllRead))
takes_nothing told p plan number before bytes text rest line = (refl, λ t lines is. ((line t).0, (line t).1, refl))

-- ---- turns

-- from one point to the next
pub after_event : (told : Bool) (p : Instance) (plan other : PlanChoices) (first : Point) (before after : Phases) (lines number : ℕ) (old new : List ℕ) (given : Option Ending) →
    other ≡ plan → TakeGives told p (choices_of other) number before old after new (Ok given) → given ≡ None → IsTrue told →
    Reaches p (choices_of plan) first (point before lines old) → Reaches p (choices_of plan) first (point after (lines + 1) new)
after_event told p plan other first before after lines number old new (Some ending) same gives is t reached = cc
after_event told p plan other first before after lines number old new None same gives is t reached =
    let h : TakeGives told p (choices_of plan) number before old after new (Ok None) =
    subst (λ (x : PlanChoices). TakeGives told p (choices_of x) number before old after new (Ok None)) same gives
    in
    let taken = h.4 t in (
      suc reached.0,
      (
        point before lines old,
        reached.1,
        record { text = taken.0; word = h.0; element = h.1; line = taken.1; tells = taken.2; step = h.3; lines = refl },
      ),
    )

-- the reading ends
pub ends_there : (told : Bool) (p : Instance) (plan other : PlanChoices) (first : Point) (before after : Phases) (lines number : ℕ) (old new : List ℕ) (given : Option Ending) (ending : Ending) →
    other ≡ plan → TakeGives told p (choices_of other) number before old after new (Ok given) → given ≡ Some ending → number ≡ lines + 1 → IsTrue told →
    Reaches p (choices_of plan) first (point before lines old) → FollowGives p (choices_of plan) first (Ok ending) after new
ends_there told p plan other first before after lines number old new None ending same gives is next t reached = cc
ends_there told p plan other first before after lines number old new (Some found) ending same gives is next t reached =
    let h : TakeGives told p (choices_of plan) number before old after new (Ok (Some found)) =
    subst (λ (x : PlanChoices). TakeGives told p (choices_of x) number before old after new (Ok (Some found))) same gives
    in
    let one : found ≡ ending = cc in
    record {
      last = point before lines old;
      reached = reached;
      ends = subst (λ (x : Ending). EndsAt p (choices_of plan) (point before lines old) x new) one (h.1 t lines next);
      kept = h.0;
    }

-- a line was not read whole
pub stops_there : (told : Bool) (p : Instance) (plan other : PlanChoices) (first : Point) (before after : Phases) (lines number : ℕ) (old new : List ℕ) (f : LineFault) →
    TakeGives told p (choices_of other) number before old after new (Err f) → IsTrue told →
    Reaches p (choices_of plan) first (point before lines old) → FollowGives p (choices_of plan) first (Err f) after new
stops_there told p plan other first before after lines number old new ReadFault gives t reached = record { last = point before lines old; reached = reached; begun = gives.1 t; kept = gives.0 }
stops_there told p plan other first before after lines number old new Memory gives t reached = record { last = point before lines old; reached = reached; begun = gives.1 t; kept = gives.0 }

-- each event leaves fewer steps
pub event_fewer : (told : Bool) (p : Instance) (plan : Choices) (number : ℕ) (before after : Phases) (old new : List ℕ) (given : Option Ending) →
    TakeGives told p plan number before old after new (Ok given) → given ≡ None → steps_left p after + 1 ≡ steps_left p before
event_fewer told p plan number before after old new (Some ending) gives is = cc
event_fewer told p plan number before after old new None gives is = by gives.0 gives.3
  where
    by : (word : Word) → IsStep p plan before (event_of word gives.1) after → steps_left p after + 1 ≡ steps_left p before
    by Start step = start_left p plan before after gives.1 gives.2 step
    by End step = end_left p plan before after gives.1 gives.2 step
    by Fail step = fail_left p plan before after gives.1 gives.2 step
