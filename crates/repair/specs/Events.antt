-- Events that are read from a source to its end: what a line says, which of them are taken, and how the reading ends.
use Rattle.std.specs.Prelude.{◌≡◌, ◌≢◌, ◌⊎◌, ℕ, zero, suc, ◌+◌, List, [], Some, None, Result, Ok, Err, codes}
use Rattle.cluster.specs.declared.ids.Element.{Element}
use Rattle.event_lines.specs.Lines.{BeginsLine, ReadsLine, Says}
use Rattle.event_lines.specs.declared.{faults.EventFault.EventFault, faults.LineFault.LineFault, faults.LineFault.TheVariants.Memory, faults.LineFault.TheVariants.ReadFault, lines.Line.Line}
use Rattle.executor.specs.Prelude.{Choices, element_named, End as AnEnd, Event, Fail as AFailure, Instance, inventory_of, IsStep, MayStart, Phases, Start as AStart}
use Rattle.executor.specs.declared.phase.Phase.TheVariants.{Running}
use Rattle.repair.specs.declared.following.Ending.{Ending, TheVariants.AllRead, TheVariants.Refused}
use Rattle.repair.specs.declared.words.Word.{Word, TheVariants.Start, TheVariants.End, TheVariants.Fail}

-- ---- what a line says

abbrev pub word_text : Word → List ℕ
word_text Start = codes "start "
word_text End = codes "end "
word_text Fail = codes "fail "

-- the text says that the action of the element of this name has started, ended or failed
abbrev pub IsEvent : List ℕ → Word → List ℕ → Type 0
IsEvent text word name = Says text (word_text word) name

-- the text says an event of this element of the problem
pub record Tells (p : Instance) (text : List ℕ) (word : Word) (element : Element) : Type 0 where
  pub name : List ℕ
  pub event : IsEvent text word name
  pub named : element_named (inventory_of p) name ≡ Some element

-- the event that a word says of an element
abbrev pub event_of : Word → Element → Event
event_of Start e = AStart e
event_of End e = AnEnd e
event_of Fail e = AFailure e

-- ---- turns

-- where the reading stands: how far each action is, how many lines were taken, and what the source has left
pub record Point : Type 0 where
  pub phases : Phases
  pub lines : ℕ
  pub rest : List ℕ

abbrev pub point : Phases → ℕ → List ℕ → Point
point phases lines rest = record { phases = phases; lines = lines; rest = rest }

-- a whole line is taken, and the event that it says
pub record IsTurn (p : Instance) (plan : Choices) (a b : Point) : Type 0 where
  pub text : List ℕ
  pub word : Word
  pub element : Element
  pub line : ReadsLine a.rest Line.Whole text b.rest
  pub tells : Tells p text word element
  pub step : IsStep p plan a.phases (event_of word element) b.phases
  pub lines : b.lines ≡ a.lines + 1

-- so many turns, one after the other
abbrev pub Turns : Instance → Choices → ℕ → Point → Point → Type 0
Turns p plan zero a b = b ≡ a
Turns p plan (suc k) a c = (b : Point) × Turns p plan k a b × IsTurn p plan b c

abbrev pub Reaches : Instance → Choices → Point → Point → Type 0
Reaches p plan a b = (k : ℕ) × Turns p plan k a b

-- ---- endings

-- what is wrong with a whole line: it says no event, or of no element, or the event is none that can be now
abbrev pub IsWrong : Instance → Choices → Phases → List ℕ → EventFault → Type 0
IsWrong p plan phases text EventFault.NotALine = (word : Word) (name : List ℕ) → ¬ IsEvent text word name
IsWrong p plan phases text EventFault.TooLong = ⊥
IsWrong p plan phases text EventFault.NoSuchName = (word : Word) × (name : List ℕ) × IsEvent text word name × (element_named (inventory_of p) name ≡ None)
IsWrong p plan phases text EventFault.NotReady = (e : Element) × Tells p text Start e × (¬ MayStart p plan phases e)
IsWrong p plan phases text EventFault.NotRunning = (e : Element) × (Tells p text End e ⊎ Tells p text Fail e) × (phases e ≢ Running)

-- what is wrong with the line that is taken at a point, and what is then left of the bytes
abbrev pub IsRefused : Instance → Choices → Point → EventFault → List ℕ → Type 0
IsRefused p plan a EventFault.NotALine rest =
    (text : List ℕ) × (ReadsLine a.rest Line.Short text rest ⊎ (ReadsLine a.rest Line.Whole text rest × IsWrong p plan a.phases text EventFault.NotALine))
IsRefused p plan a EventFault.TooLong rest = (text : List ℕ) × ReadsLine a.rest Line.TooLong text rest
IsRefused p plan a EventFault.NoSuchName rest = (text : List ℕ) × ReadsLine a.rest Line.Whole text rest × IsWrong p plan a.phases text EventFault.NoSuchName
IsRefused p plan a EventFault.NotReady rest = (text : List ℕ) × ReadsLine a.rest Line.Whole text rest × IsWrong p plan a.phases text EventFault.NotReady
IsRefused p plan a EventFault.NotRunning rest = (text : List ℕ) × ReadsLine a.rest Line.Whole text rest × IsWrong p plan a.phases text EventFault.NotRunning

-- how the reading ends at a point: the source has ended, or the next line is refused
abbrev pub EndsAt : Instance → Choices → Point → Ending → List ℕ → Type 0
EndsAt p plan a AllRead rest = ReadsLine a.rest Line.Nothing [] rest
EndsAt p plan a (Refused number f) rest = (number ≡ a.lines + 1) × IsRefused p plan a f rest

-- turn after turn from a point on, and then it ends; what is refused changes nothing
pub record EndsFrom (p : Instance) (plan : Choices) (first : Point) (ending : Ending) (phases : Phases) (rest : List ℕ) : Type 0 where
  pub last : Point
  pub reached : Reaches p plan first last
  pub ends : EndsAt p plan last ending rest
  pub kept : phases ≡ last.phases

-- it stops within a line, of which no more than the beginning is taken
pub record StopsInLine (p : Instance) (plan : Choices) (first : Point) (phases : Phases) (rest : List ℕ) : Type 0 where
  pub last : Point
  pub reached : Reaches p plan first last
  pub begun : BeginsLine last.rest rest
  pub kept : phases ≡ last.phases

-- the phases and the bytes that a reading leaves
abbrev pub FollowGives : Instance → Choices → Point → Result Ending LineFault → Phases → List ℕ → Type 0
FollowGives p plan first (Ok ending) phases rest = EndsFrom p plan first ending phases rest
FollowGives p plan first (Err ReadFault) phases rest = StopsInLine p plan first phases rest
FollowGives p plan first (Err Memory) phases rest = StopsInLine p plan first phases rest
