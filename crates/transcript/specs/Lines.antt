-- The lines of a transcript: those of starts, which are written, and those of events, which are read.
use Rattle.std.specs.Prelude.{ℕ, List, ◌++◌, codes}
use Rattle.executor.specs.Prelude.{Instance, inventory_of, name_of}
use Rattle.cluster.specs.declared.ids.Element.{Element}
use Rattle.event_lines.specs.Lines.{Says}
use Rattle.transcript.specs.declared.lines.{EventKind.EventKind, EventKind.TheVariants.End, EventKind.TheVariants.Fail}
unfoldable pub use Rattle.event_lines.specs.Lines.{fault_text}

-- the line that the action of an element starts
unfoldable pub start_line : Instance → Element → List ℕ
start_line p e = codes "start " ++ name_of (inventory_of p) e ++ codes "\n"

-- ---- lines of events

abbrev pub kind_text : EventKind → List ℕ
kind_text End = codes "end "
kind_text Fail = codes "fail "

-- the text says that the action of the element of this name has ended or failed
abbrev pub IsEvent : List ℕ → EventKind → List ℕ → Type 0
IsEvent text kind name = Says text (kind_text kind) name
