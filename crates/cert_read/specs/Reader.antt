-- What a reader is to contracts, and what its calls answer.
use Rattle.std.specs.Prelude.{◌≡◌, ℕ, ◌<◌, ◌≤◌, Bool, true, false, List, [], drop, Option, Result, Ok, Err, IsTrue}
use Rattle.std.specs.Io.{StartsWith}
use Rattle.plan_io.specs.Prelude.{Files, Rose}
use Rattle.cert_read.specs.{Lines.start, declared.line.Line.Line, declared.line.Line.TheVariants.Step, declared.line.Line.TheVariants.End, declared.line.Line.TheVariants.Over, declared.line.LineFault.LineFault, declared.position.Position.Position}
use Rattle.cert_read.specs.declared.line.LineFault.TheVariants.{NotALine, TooLong, Short, ReadFault, Memory}

-- the name of the file, the position, and the bytes from there on that were read already
pub record ReaderState : Type 0 where
  pub name : List ℕ
  pub at : Position
  pub held : List ℕ

-- the most bytes that are held: a line and a piece
abbrev pub max_held : ℕ
max_held = 69632

-- a reader of a file with these bytes: what it holds are the bytes at its position
abbrev pub StandsIn : List ℕ → ReaderState → Type 0
StandsIn file r = StartsWith (drop r.at.place file) r.held

-- the fault is what is read there; of a failed read and of want of memory nothing is said
abbrev pub Faults : {B : Type 0} → LineFault → Result B LineFault → Type 0
Faults (NotALine n) read = read ≡ Err (NotALine n)
Faults (TooLong n) read = read ≡ Err (TooLong n)
Faults Short read = read ≡ Err Short
Faults ReadFault read = Unit {0}
Faults Memory read = Unit {0}

-- what a call answered, seen by `view`, is what is read there
abbrev pub Gives : {A B : Type 0} → (A → B) → Result A LineFault → Result B LineFault → Type 0
Gives view (Ok x) read = read ≡ Ok (view x)
Gives view (Err fault) read = Faults fault read

-- a fault that says nothing of the bytes
abbrev pub IsOutside : LineFault → Type 0
IsOutside (NotALine n) = ⊥
IsOutside (TooLong n) = ⊥
IsOutside Short = ⊥
IsOutside ReadFault = Unit {0}
IsOutside Memory = Unit {0}

-- a failed read is answered only where the count rose, and any other answer leaves the count
abbrev pub CountsLine : {A : Type 0} → ℕ → ℕ → Result A LineFault → Type 0
CountsLine before now (Ok line) = now ≡ before
CountsLine before now (Err (NotALine n)) = now ≡ before
CountsLine before now (Err (TooLong n)) = now ≡ before
CountsLine before now (Err Short) = now ≡ before
CountsLine before now (Err ReadFault) = (before ≤ now) × Rose before now
CountsLine before now (Err Memory) = now ≡ before

-- A call that only reads, for a line. Of a desk that tells, all files stay; of each, the file that was created last and the count of failed writes stay,
-- and a failed read is answered only where the count of failed reads rose. D has the desks; the four functions are what is seen of one: its files, which
-- was created last, and how many reads and writes failed
pub record OnlyReads {D A : Type 0} (tells : Bool) (files : D → Files) (current : D → Option (List ℕ)) (read_faults write_faults : D → ℕ) (old new : D) (result : Result A LineFault) : Type 0 where
  pub files_stay : IsTrue tells → files new ≡ files old
  pub created : current new ≡ current old
  pub cause : CountsLine (read_faults old) (read_faults new) result
  pub writes_kept : write_faults new ≡ write_faults old

-- a line lies before the new position, which is the same where the file is over; only the end line ends it
abbrev pub IsMoved : Position → Position → Line → Type 0
IsMoved old new (Step step) = (old.place < new.place) × (old.lines < new.lines) × (new.ended ≡ false)
IsMoved old new (End goal) = (old.place < new.place) × (old.lines < new.lines) × (new.ended ≡ true)
IsMoved old new Over = (new ≡ old) × (old.ended ≡ true)

-- before the first line nothing was read
abbrev pub IsFreshAtStart : ReaderState → Type 0
IsFreshAtStart r = r.at.lines ≡ 0 → (r.at ≡ start) × (r.held ≡ [])
