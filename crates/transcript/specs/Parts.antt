-- What the parts of a run give. What is said of bytes is said only of sources and sinks that tell them.
use Rattle.std.specs.Prelude.{◌≡◌, ◌≢◌, ℕ, ◌+◌, List, ◌++◌, Bool, true, false, IsTrue, Option, Some, None, Result, Ok, Err}
use Rattle.std.specs.Io.{StartsWith}
use Rattle.executor.specs.Prelude.{Choices, element_named, End as AnEnd, Instance, inventory_of, IsElement, IsFirst, IsFirstBroken, IsStep, IsValid, MayStart, Moves, Phases, Start}
use Rattle.plan_io.specs.declared.faults.OutFault.{OutFault}
use Rattle.cluster.specs.declared.ids.Element.{Element}
use Rattle.executor.specs.declared.phase.Phase.TheVariants.{Running, Ended}
use Rattle.transcript.specs.declared.conclusion.{Conclusion.Conclusion, Conclusion.TheVariants.Done, Conclusion.TheVariants.StoppedFail, Conclusion.TheVariants.StoppedEnd, Conclusion.TheVariants.Refused}
use Rattle.transcript.specs.declared.conclusion.ExecuteFault.{ExecuteFault, TheVariants.NotValid, TheVariants.ReadFault, TheVariants.WriteFault, TheVariants.Memory}
use Rattle.event_lines.specs.{declared.faults.EventFault.EventFault, declared.faults.LineFault.LineFault, Lines.BeginsLine}
use Rattle.transcript.specs.{declared.lines.EventKind.EventKind, declared.lines.EventKind.TheVariants.End, declared.lines.EventKind.TheVariants.Fail, Lines.IsEvent, Lines.start_line}
use Rattle.transcript.specs.Transcript.{EndsAt, TakesEvent, point}

abbrev pub out_fault : OutFault → ExecuteFault
out_fault OutFault.Failed = WriteFault
out_fault OutFault.Memory = Memory

abbrev pub line_fault : LineFault → ExecuteFault
line_fault LineFault.ReadFault = ReadFault
line_fault LineFault.Memory = Memory

-- the plan is judged: it is valid unless what is broken first is the answer
abbrev pub IsJudged : Instance → Choices → Result Conclusion ExecuteFault → Type 0
IsJudged p plan (Ok conclusion) = IsValid p plan
IsJudged p plan (Err (NotValid broken)) = IsFirstBroken p plan broken
IsJudged p plan (Err ReadFault) = IsValid p plan
IsJudged p plan (Err WriteFault) = IsValid p plan
IsJudged p plan (Err Memory) = IsValid p plan

-- the element that a conclusion names is one of the problem
abbrev pub NamesListed : Instance → Conclusion → Type 0
NamesListed p Done = Unit {0}
NamesListed p (StoppedFail e) = IsElement p e
NamesListed p StoppedEnd = Unit {0}
NamesListed p (Refused number f) = Unit {0}

-- where the plan is not valid nothing is touched
abbrev pub StaysIfNotValid : {S : Type 0} → Result Conclusion ExecuteFault → S → S → Type 0
StaysIfNotValid (Ok conclusion) before after = Unit {0}
StaysIfNotValid (Err (NotValid broken)) before after = after ≡ before
StaysIfNotValid (Err ReadFault) before after = Unit {0}
StaysIfNotValid (Err WriteFault) before after = Unit {0}
StaysIfNotValid (Err Memory) before after = Unit {0}

-- ---- an action starts

-- its line is begun at most
pub record BeginsStart (p : Instance) (plan : Choices) (told : Bool) (phases : Phases) (old new : List ℕ) : Type 0 where
  pub element : Element
  pub ready : IsFirst p (MayStart p plan phases) element
  pub begun : IsTrue told → StartsWith new old
  pub cut : IsTrue told → StartsWith (old ++ start_line p element) new

abbrev pub StartGives : Bool → Instance → Choices → Phases → List ℕ → Phases → List ℕ → Result Bool ExecuteFault → Type 0
StartGives told p plan before old after new (Ok true) =
    (e : Element) × IsFirst p (MayStart p plan before) e × IsStep p plan before (Start e) after × (IsTrue told → new ≡ old ++ start_line p e)
StartGives told p plan before old after new (Ok false) = ((e : Element) → ¬ MayStart p plan before e) × (after ≡ before) × (IsTrue told → new ≡ old)
StartGives told p plan before old after new (Err (NotValid broken)) = ⊥
StartGives told p plan before old after new (Err ReadFault) = ⊥
StartGives told p plan before old after new (Err WriteFault) = BeginsStart p plan told before old new
StartGives told p plan before old after new (Err Memory) = BeginsStart p plan told before old new

-- ---- an event line is taken, where it is due

-- what a whole line does: an end goes on, and all else is a conclusion
abbrev pub EventGives : Instance → Phases → ℕ → List ℕ → Phases → Option Conclusion → Type 0
EventGives p before number text after None =
    (name : List ℕ) × (e : Element) × IsEvent text End name × (element_named (inventory_of p) name ≡ Some e) × (before e ≡ Running) × Moves before e Ended after
EventGives p before number text after (Some Done) = ⊥
EventGives p before number text after (Some (StoppedFail e)) =
    (name : List ℕ) × IsEvent text Fail name × (element_named (inventory_of p) name ≡ Some e) × (before e ≡ Running)
EventGives p before number text after (Some StoppedEnd) = ⊥
EventGives p before number text after (Some (Refused n EventFault.NotALine)) = (n ≡ number) × ((kind : EventKind) (name : List ℕ) → ¬ IsEvent text kind name)
EventGives p before number text after (Some (Refused n EventFault.TooLong)) = ⊥
EventGives p before number text after (Some (Refused n EventFault.NoSuchName)) =
    (n ≡ number) × (kind : EventKind) × (name : List ℕ) × IsEvent text kind name × (element_named (inventory_of p) name ≡ None)
EventGives p before number text after (Some (Refused n EventFault.NotReady)) = ⊥
EventGives p before number text after (Some (Refused n EventFault.NotRunning)) =
    (n ≡ number) × (kind : EventKind) × (name : List ℕ) × (e : Element) × IsEvent text kind name × (element_named (inventory_of p) name ≡ Some e) × (before e ≢ Running)

-- what the line that is due does, if it can be taken
abbrev pub TakeGives : Bool → Instance → Choices → ℕ → Phases → List ℕ → Phases → List ℕ → Result (Option Conclusion) ExecuteFault → Type 0
TakeGives told p plan number before old after new (Ok None) =
    (e : Element) × IsElement p e × IsStep p plan before (AnEnd e) after × (IsTrue told → (lines : ℕ) (written : List ℕ) → TakesEvent p plan (point before lines old written) End e new)
TakeGives told p plan number before old after new (Ok (Some conclusion)) =
    NamesListed p conclusion × (IsTrue told → (lines : ℕ) (written : List ℕ) → number ≡ lines + 1 → EndsAt p plan (point before lines old written) conclusion new)
TakeGives told p plan number before old after new (Err (NotValid broken)) = ⊥
TakeGives told p plan number before old after new (Err ReadFault) = IsTrue told → BeginsLine old new
TakeGives told p plan number before old after new (Err WriteFault) = ⊥
TakeGives told p plan number before old after new (Err Memory) = IsTrue told → BeginsLine old new

-- a run of a plan that is valid may fail by a failed read, by a failed write, or by want of memory
abbrev pub IsOfRunning : ExecuteFault → Type 0
IsOfRunning (NotValid broken) = ⊥
IsOfRunning ReadFault = Unit {0}
IsOfRunning WriteFault = Unit {0}
IsOfRunning Memory = Unit {0}
