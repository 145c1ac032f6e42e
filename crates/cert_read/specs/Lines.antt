-- What is read of a certificate at a place, line by line.
use Rattle.std.specs.Prelude.{ℕ, ◌+◌, ◌==◌, Bool, true, false, List, [], ◌∷◌, length, take, drop, nat_lt, Option, Some, None, Result, Ok, Err, if◌then◌else◌}
use Rattle.std.specs.{List.position_or_len, Str.bytes_eq}
use Rattle.cert_text.specs.{Prelude.header, Prelude.max_line, Prelude.reading, declared.text.LineText.LineText, declared.text.LineText.TheVariants.Step as StepLine, declared.text.LineText.TheVariants.End as EndLine}
use Rattle.cert_read.specs.declared.line.{Line.Line, Line.TheVariants.Step, Line.TheVariants.End, Line.TheVariants.Over, LineFault.LineFault, LineFault.TheVariants.NotALine, LineFault.TheVariants.TooLong, LineFault.TheVariants.Short}
use Rattle.cert_read.specs.declared.position.Position.{Position}

-- how many bytes come before the first newline, or before the end where there is none
unfoldable pub bytes_before_newline : List ℕ → ℕ
bytes_before_newline bytes = position_or_len (λ b. b == 10) bytes

-- ---- a line, or the first fault

infixl 10 ◌>>=◌
abbrev pub ◌>>=◌ : {A B : Type 0} → Result A LineFault → (A → Result B LineFault) → Result B LineFault
(Ok x) >>= f = f x
(Err fault) >>= f = Err fault

-- so many bytes of what is left come before a newline, or before the end
abbrev pub first_bytes : ℕ → List ℕ → ℕ → Result (List ℕ) LineFault
first_bytes n rest count = if nat_lt max_line count then Err (TooLong n) else if nat_lt count (length rest) then Ok (take count rest) else Err Short

-- line number n of what is left, without its newline
unfoldable pub line_bytes : ℕ → List ℕ → Result (List ℕ) LineFault
line_bytes n rest = first_bytes n rest (bytes_before_newline rest)

-- the first line is the header
unfoldable pub header_bytes : List ℕ → Result (List ℕ) LineFault
header_bytes rest = do
  bytes ← line_bytes 1 rest
  if bytes_eq bytes header then Ok bytes else Err (NotALine 1)

abbrev pub known : ℕ → Option LineText → Result LineText LineFault
known n (Some line) = Ok line
known n None = Err (NotALine n)

abbrev pub is_end : LineText → Bool
is_end (StepLine step) = false
is_end (EndLine goal) = true

abbrev pub as_line : LineText → Line
as_line (StepLine step) = Step step
as_line (EndLine goal) = End goal

-- before the first line
abbrev pub start : Position
start = record { place = 0; lines = 0; ended = false }

-- after a line with so many bytes and its newline
abbrev pub position_after : Position → ℕ → Bool → Position
position_after at count ended = record { place = at.place + count + 1; lines = at.lines + 1; ended = ended }

-- a line after the header, with how many bytes it has
unfoldable pub text_at : List ℕ → Position → Result (LineText × ℕ) LineFault
text_at file at = do
  bytes ← line_bytes (at.lines + 1) (drop at.place file)
  line ← known (at.lines + 1) (reading bytes)
  Ok (line, length bytes)

unfoldable pub line_at : List ℕ → Position → Result (Line × Position) LineFault
line_at file at = do
  found ← text_at file at
  Ok (as_line found.0, position_after at found.1 (is_end found.0))

-- at the start, the header and the line after it
unfoldable pub first_line_at : List ℕ → Position → Result (Line × Position) LineFault
first_line_at file at = do
  bytes ← header_bytes (drop at.place file)
  line_at file (position_after at (length bytes) false)

-- after the end line, nothing
abbrev pub end_of : Position → List ℕ → Result (Line × Position) LineFault
end_of at [] = Ok (Over, at)
end_of at (b ∷ bs) = Err (NotALine (at.lines + 1))

unfoldable pub end_at : List ℕ → Position → Result (Line × Position) LineFault
end_at file at = end_of at (drop at.place file)

-- what is read of a file at a position, and the position after it
unfoldable pub turn : List ℕ → Position → Result (Line × Position) LineFault
turn file at = if at.ended then end_at file at else if at.lines == 0 then first_line_at file at else line_at file at
