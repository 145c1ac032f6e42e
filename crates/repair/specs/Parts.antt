-- Helping only: what the parts of a reading of events give. What is said of bytes is said only of sources that tell them.
use Rattle.std.specs.Prelude.{◌≡◌, ℕ, ◌+◌, List, Bool, IsTrue, Option, Some, None, Result, Ok, Err}
use Rattle.cluster.specs.declared.ids.Element.{Element}
use Rattle.event_lines.specs.Lines.{BeginsLine, ReadsLine}
use Rattle.event_lines.specs.declared.{faults.EventFault.EventFault, faults.LineFault.LineFault, faults.LineFault.TheVariants.Memory, faults.LineFault.TheVariants.ReadFault, lines.Line.Line}
use Rattle.executor.specs.Prelude.{Choices, Instance, IsElement, IsStep, Phases}
use Rattle.repair.specs.Events.{EndsAt, event_of, IsWrong, point, Tells}
use Rattle.repair.specs.declared.{following.Ending.Ending, words.Word.Word}

-- a whole line does the event that it says, or it is wrong and nothing changes
abbrev pub LineDoes : {T : Type 0} → Instance → Choices → Phases → List ℕ → Phases → Result T EventFault → Type 0
LineDoes p plan before text after (Ok done) =
    (word : Word) × (e : Element) × IsElement p e × Tells p text word e × IsStep p plan before (event_of word e) after
LineDoes p plan before text after (Err f) = IsWrong p plan before text f × (after ≡ before)

-- the line that is taken does an event, or the reading ends with it, or it was not read whole
abbrev pub TakeGives : Bool → Instance → Choices → ℕ → Phases → List ℕ → Phases → List ℕ → Result (Option Ending) LineFault → Type 0
TakeGives told p plan number before old after new (Ok None) =
    (word : Word) × (e : Element) × IsElement p e × IsStep p plan before (event_of word e) after × (IsTrue told → (text : List ℕ) × ReadsLine old Line.Whole text new × Tells p text word e)
TakeGives told p plan number before old after new (Ok (Some ending)) =
    (after ≡ before) × (IsTrue told → (lines : ℕ) → number ≡ lines + 1 → EndsAt p plan (point before lines old) ending new)
TakeGives told p plan number before old after new (Err ReadFault) = (after ≡ before) × (IsTrue told → BeginsLine old new)
TakeGives told p plan number before old after new (Err Memory) = (after ≡ before) × (IsTrue told → BeginsLine old new)
