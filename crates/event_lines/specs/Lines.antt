-- Event lines: which bytes are taken for one, what one says, and what may be wrong with it.
use Rattle.std.specs.Prelude.{◌≡◌, ℕ, ◌+◌, ◌<◌, ◌≤◌, List, [], ◌∷◌, ◌++◌, length, IsTrue, codes}
use Rattle.std.specs.List.{Contains}
use Rattle.cluster.specs.Names.{is_name}
use Rattle.event_lines.specs.declared.faults.EventFault.{EventFault}
use Rattle.event_lines.specs.declared.lines.{Line.Line, Line.TheVariants.Whole, Line.TheVariants.TooLong, Line.TheVariants.Short, Line.TheVariants.Nothing}

-- ---- bytes that are taken for a line

-- the most bytes of a line, without its newline
abbrev pub max_line_bytes : ℕ
max_line_bytes = 65536

-- no byte of the text ends a line
abbrev pub IsOneLine : List ℕ → Type 0
IsOneLine text = ¬ Contains text 10

-- of the bytes this text is taken for a line, with its newline where it is whole, and the rest is left
abbrev pub ReadsLine : List ℕ → Line → List ℕ → List ℕ → Type 0
ReadsLine bytes Whole text rest = (bytes ≡ text ++ 10 ∷ rest) × IsOneLine text × (length text ≤ max_line_bytes)
ReadsLine bytes TooLong text rest = (bytes ≡ text ++ rest) × IsOneLine text × (length text ≡ max_line_bytes + 1)
ReadsLine bytes Short text rest = (bytes ≡ text) × (rest ≡ []) × IsOneLine text × (0 < length text) × (length text ≤ max_line_bytes)
ReadsLine bytes Nothing text rest = (bytes ≡ []) × (rest ≡ []) × (text ≡ [])

-- no more than the beginning of one line is taken of the bytes
pub record BeginsLine (bytes rest : List ℕ) : Type 0 where
  pub text : List ℕ
  pub taken : bytes ≡ text ++ rest
  pub one : IsOneLine text
  pub few : length text ≤ max_line_bytes + 1

-- ---- what a line says

-- the text is these words and then a name
pub record Says (text words name : List ℕ) : Type 0 where
  pub says : text ≡ words ++ name
  pub good : IsTrue (is_name name)

unfoldable pub fault_text : EventFault → List ℕ
fault_text EventFault.NotALine = codes "not a line"
fault_text EventFault.TooLong = codes "too long"
fault_text EventFault.NoSuchName = codes "no such name"
fault_text EventFault.NotReady = codes "not ready"
fault_text EventFault.NotRunning = codes "not running"
