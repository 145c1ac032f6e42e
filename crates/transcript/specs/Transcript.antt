-- The transcript of an execution: which lines are written, which bytes are taken, and how it ends.
use Rattle.std.specs.Prelude.{◌≡◌, ◌≢◌, ◌⊎◌, ℕ, zero, suc, ◌+◌, List, [], ◌++◌, Some, None, Result, Ok, Err}
use Rattle.std.specs.Io.{StartsWith}
use Rattle.executor.specs.Prelude.{AllEnded, Choices, element_named, End as AnEnd, first_phases, Instance, inventory_of, IsFirst, IsFirstBroken, IsStep, IsValid, MayStart, Phases, Start}
use Rattle.cluster.specs.declared.ids.Element.{Element}
use Rattle.executor.specs.declared.phase.Phase.TheVariants.{Running}
use Rattle.transcript.specs.declared.conclusion.{Conclusion.Conclusion, Conclusion.TheVariants.Done, Conclusion.TheVariants.StoppedFail, Conclusion.TheVariants.StoppedEnd, Conclusion.TheVariants.Refused}
use Rattle.transcript.specs.declared.conclusion.ExecuteFault.{ExecuteFault, TheVariants.NotValid, TheVariants.ReadFault, TheVariants.WriteFault, TheVariants.Memory}
use Rattle.event_lines.specs.{declared.faults.EventFault.EventFault, declared.lines.Line.Line, Lines.BeginsLine, Lines.ReadsLine}
use Rattle.transcript.specs.{declared.lines.EventKind.EventKind, declared.lines.EventKind.TheVariants.End, declared.lines.EventKind.TheVariants.Fail, Lines.IsEvent, Lines.start_line}

-- where an execution stands: how far each action is, how many event lines were taken, what the source has left, and all that the sink has got
pub record Point : Type 0 where
  pub phases : Phases
  pub lines : ℕ
  pub rest : List ℕ
  pub written : List ℕ

abbrev pub point : Phases → ℕ → List ℕ → List ℕ → Point
point phases lines rest written = record { phases = phases; lines = lines; rest = rest; written = written }

-- at first all actions wait, and no line was taken
abbrev pub first_point : Choices → List ℕ → List ℕ → Point
first_point plan bytes written = point (first_phases plan) 0 bytes written

-- ---- turns

-- the first action that may start is written, and starts
pub record IsStartTurn (p : Instance) (plan : Choices) (a b : Point) : Type 0 where
  pub element : Element
  pub ready : IsFirst p (MayStart p plan a.phases) element
  pub step : IsStep p plan a.phases (Start element) b.phases
  pub lines : b.lines ≡ a.lines
  pub rest : b.rest ≡ a.rest
  pub written : b.written ≡ a.written ++ start_line p element

-- an event line is due: no action may start, and one has not ended
pub record IsDue (p : Instance) (plan : Choices) (phases : Phases) : Type 0 where
  pub quiet : (e : Element) → ¬ MayStart p plan phases e
  pub unended : ¬ AllEnded phases

-- it is taken, and says that the action of this element has ended or failed
pub record TakesEvent (p : Instance) (plan : Choices) (a : Point) (kind : EventKind) (element : Element) (rest : List ℕ) : Type 0 where
  pub due : IsDue p plan a.phases
  pub text : List ℕ
  pub name : List ℕ
  pub line : ReadsLine a.rest Line.Whole text rest
  pub event : IsEvent text kind name
  pub named : element_named (inventory_of p) name ≡ Some element

-- an action that runs has ended, as the event line says
pub record IsEndTurn (p : Instance) (plan : Choices) (a b : Point) : Type 0 where
  pub element : Element
  pub event : TakesEvent p plan a End element b.rest
  pub step : IsStep p plan a.phases (AnEnd element) b.phases
  pub lines : b.lines ≡ a.lines + 1
  pub written : b.written ≡ a.written

abbrev pub IsTurn : Instance → Choices → Point → Point → Type 0
IsTurn p plan a b = IsStartTurn p plan a b ⊎ IsEndTurn p plan a b

-- so many turns, one after the other
abbrev pub Turns : Instance → Choices → ℕ → Point → Point → Type 0
Turns p plan zero a b = b ≡ a
Turns p plan (suc k) a c = (b : Point) × Turns p plan k a b × IsTurn p plan b c

abbrev pub Reaches : Instance → Choices → Point → Point → Type 0
Reaches p plan a b = (k : ℕ) × Turns p plan k a b

-- ---- endings

-- what is wrong with the line that is taken at a point
abbrev pub IsRefused : Instance → Choices → Point → EventFault → List ℕ → Type 0
IsRefused p plan a EventFault.NotALine rest =
    (text : List ℕ) × (ReadsLine a.rest Line.Short text rest ⊎ (ReadsLine a.rest Line.Whole text rest × ((kind : EventKind) (name : List ℕ) → ¬ IsEvent text kind name)))
IsRefused p plan a EventFault.TooLong rest = (text : List ℕ) × ReadsLine a.rest Line.TooLong text rest
IsRefused p plan a EventFault.NoSuchName rest =
    (text : List ℕ) × (kind : EventKind) × (name : List ℕ) × ReadsLine a.rest Line.Whole text rest × IsEvent text kind name × (element_named (inventory_of p) name ≡ None)
-- no line says here that an action starts
IsRefused p plan a EventFault.NotReady rest = ⊥
IsRefused p plan a EventFault.NotRunning rest = (kind : EventKind) × (element : Element) × TakesEvent p plan a kind element rest × (a.phases element ≢ Running)

-- how it ends at a point, and what is then left of the bytes
abbrev pub EndsAt : Instance → Choices → Point → Conclusion → List ℕ → Type 0
EndsAt p plan a Done rest = AllEnded a.phases × (rest ≡ a.rest)
EndsAt p plan a (StoppedFail element) rest = TakesEvent p plan a Fail element rest × (a.phases element ≡ Running)
EndsAt p plan a StoppedEnd rest = IsDue p plan a.phases × ReadsLine a.rest Line.Nothing [] rest
EndsAt p plan a (Refused number f) rest = IsDue p plan a.phases × (number ≡ a.lines + 1) × IsRefused p plan a f rest

-- the transcript from a point on: turn after turn, and a conclusion
pub record EndsFrom (p : Instance) (plan : Choices) (first : Point) (conclusion : Conclusion) (rest written : List ℕ) : Type 0 where
  pub last : Point
  pub reached : Reaches p plan first last
  pub ends : EndsAt p plan last conclusion rest
  pub all : written ≡ last.written

-- ---- where it stops without a conclusion

-- between two turns
pub record StopsAtTurn (p : Instance) (plan : Choices) (first : Point) (rest written : List ℕ) : Type 0 where
  pub last : Point
  pub reached : Reaches p plan first last
  pub left : rest ≡ last.rest
  pub all : written ≡ last.written

-- in the event line that is due: each line that was due before is written, and no byte past this line is taken
pub record StopsInEvent (p : Instance) (plan : Choices) (first : Point) (rest written : List ℕ) : Type 0 where
  pub last : Point
  pub reached : Reaches p plan first last
  pub due : IsDue p plan last.phases
  pub begun : BeginsLine last.rest rest
  pub all : written ≡ last.written

-- in the line of a start: each line before it is written, a prefix of it is, and no byte is taken that is read after it
pub record StopsInStart (p : Instance) (plan : Choices) (first : Point) (rest written : List ℕ) : Type 0 where
  pub last : Point
  pub reached : Reaches p plan first last
  pub element : Element
  pub ready : IsFirst p (MayStart p plan last.phases) element
  pub left : rest ≡ last.rest
  pub begun : StartsWith written last.written
  pub cut : StartsWith (last.written ++ start_line p element) written

-- ---- the whole

-- what is left of the bytes and what is written by a run from a point
abbrev pub RunGives : Instance → Choices → Point → Result Conclusion ExecuteFault → List ℕ → List ℕ → Type 0
RunGives p plan first (Ok conclusion) rest written = EndsFrom p plan first conclusion rest written
RunGives p plan first (Err (NotValid broken)) rest written = ⊥
RunGives p plan first (Err ReadFault) rest written = StopsInEvent p plan first rest written
RunGives p plan first (Err WriteFault) rest written = StopsInStart p plan first rest written
RunGives p plan first (Err Memory) rest written =
    StopsAtTurn p plan first rest written ⊎ (StopsInEvent p plan first rest written ⊎ StopsInStart p plan first rest written)

-- of a plan that is not valid nothing starts; any other is run from the point at which all actions wait
abbrev pub ExecuteGives : Instance → Choices → List ℕ → List ℕ → Result Conclusion ExecuteFault → List ℕ → List ℕ → Type 0
ExecuteGives p plan bytes before (Ok conclusion) rest written = IsValid p plan × RunGives p plan (first_point plan bytes before) (Ok conclusion) rest written
ExecuteGives p plan bytes before (Err (NotValid broken)) rest written = IsFirstBroken p plan broken × (rest ≡ bytes) × (written ≡ before)
ExecuteGives p plan bytes before (Err ReadFault) rest written = IsValid p plan × RunGives p plan (first_point plan bytes before) (Err ReadFault) rest written
ExecuteGives p plan bytes before (Err WriteFault) rest written = IsValid p plan × RunGives p plan (first_point plan bytes before) (Err WriteFault) rest written
ExecuteGives p plan bytes before (Err Memory) rest written = IsValid p plan × RunGives p plan (first_point plan bytes before) (Err Memory) rest written
