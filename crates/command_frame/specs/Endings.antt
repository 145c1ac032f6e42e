-- How a command or a part of it ends, before its last line is printed.
use Rattle.std.specs.Prelude.{◌≡◌, ◌++◌, ℕ, List, Option, Some, None, Result, Ok, Err, IfSome, codes, option_map, String, string_bytes}
use Rattle.std.specs.{Io.StartsWith, declared.alloc.Global.Global}
use Rattle.plan_io.specs.declared.faults.OutFault.{OutFault}
use Rattle.command_frame.specs.{Answer.Outside, Answer.outside, declared.status.Status.Status, declared.fault.Fault.Fault, declared.fault.Ending.Ending, declared.fault.Outcome.Outcome}

abbrev pub outcome_status : Outcome → Status
outcome_status Outcome.Good = Status.Good
outcome_status Outcome.Negative = Status.Negative
outcome_status Outcome.Undecided = Status.Undecided

abbrev pub fault_status : Fault → Status
fault_status Fault.Words = Status.Words
fault_status (Fault.Input line) = Status.Input
fault_status Fault.ReadFault = Status.ReadFault
fault_status Fault.WriteFault = Status.WriteFault
fault_status Fault.Memory = Status.Memory

-- The line of a fault. One of the outside and want of memory have none.
abbrev pub line_of : Fault → Option (List ℕ)
line_of Fault.Words = Some (codes "words\n")
line_of (Fault.Input line) = Some (string_bytes line)
line_of Fault.ReadFault = None
line_of Fault.WriteFault = None
line_of Fault.Memory = None

-- What is printed in the end: the last line too, where one is still to be printed.
abbrev pub printed_with : List ℕ → Option (String Global) → List ℕ
printed_with printed None = printed
printed_with printed (Some line) = printed ++ string_bytes line

-- The answer stands as soon as the last line is printed, if there is one.
unfoldable pub Ends : (Outside → Status → Type 0) → Outside → Result Ending Fault → Type 0
Ends answer after (Ok ending) = answer (outside after.files (printed_with after.printed ending.line)) (outcome_status ending.outcome)
Ends answer after (Err f) = IfSome (line_of f) (λ line. answer (outside after.files (after.printed ++ line)) (fault_status f))

-- What is so of the outside and the status, however the writing of this line ends.
pub record LineEnds (takes : Outside → Status → Type 0) (after : Outside) (line : List ℕ) (said : Status) : Type 0 where
  pub printed : takes (outside after.files (after.printed ++ line)) said
  pub failed : (now : List ℕ) → StartsWith now after.printed → StartsWith (after.printed ++ line) now → takes (outside after.files now) Status.WriteFault
  pub memory : (now : List ℕ) → StartsWith now after.printed → StartsWith (after.printed ++ line) now → takes (outside after.files now) Status.Memory

-- The same where there may be no line to write.
abbrev pub LastEnds : (Outside → Status → Type 0) → Outside → Option (List ℕ) → Status → Type 0
LastEnds takes after None said = takes after said
LastEnds takes after (Some line) said = LineEnds takes after line said

-- What is so of the outside and the status, however the command ends.
unfoldable pub EndsAnyhow : (Outside → Status → Type 0) → Outside → Result Ending Fault → Type 0
EndsAnyhow takes after (Ok ending) = LastEnds takes after (option_map string_bytes ending.line) (outcome_status ending.outcome)
EndsAnyhow takes after (Err f) = LastEnds takes after (line_of f) (fault_status f)

-- A part that reads an input may fail by the input, by a failed read, or by want of memory.
abbrev pub IsOfReading : Fault → Type 0
IsOfReading Fault.Words = ⊥
IsOfReading (Fault.Input line) = Unit {0}
IsOfReading Fault.ReadFault = Unit {0}
IsOfReading Fault.WriteFault = ⊥
IsOfReading Fault.Memory = Unit {0}

-- A part that writes may fail by a failed write, or by want of memory.
abbrev pub IsOfWriting : Fault → Type 0
IsOfWriting Fault.Words = ⊥
IsOfWriting (Fault.Input line) = ⊥
IsOfWriting Fault.ReadFault = ⊥
IsOfWriting Fault.WriteFault = Unit {0}
IsOfWriting Fault.Memory = Unit {0}

-- A part that executes a plan may fail by an event line, by a failed read or write, or by want of memory.
abbrev pub IsOfExecuting : Fault → Type 0
IsOfExecuting Fault.Words = ⊥
IsOfExecuting (Fault.Input line) = Unit {0}
IsOfExecuting Fault.ReadFault = Unit {0}
IsOfExecuting Fault.WriteFault = Unit {0}
IsOfExecuting Fault.Memory = Unit {0}

-- The fault with this line, unless memory ran out.
abbrev pub IsRefusal : Fault → List ℕ → Type 0
IsRefusal Fault.Words line = ⊥
IsRefusal (Fault.Input text) line = string_bytes text ≡ line
IsRefusal Fault.ReadFault line = ⊥
IsRefusal Fault.WriteFault line = ⊥
IsRefusal Fault.Memory line = Unit {0}

-- A part ends with this line and status, unless memory ran out.
abbrev pub IsLastLine : Result Ending Fault → (line : List ℕ) → Status → Type 0
IsLastLine (Ok ending) line said = (option_map string_bytes ending.line ≡ Some line) × (outcome_status ending.outcome ≡ said)
IsLastLine (Err Fault.Words) line said = ⊥
IsLastLine (Err (Fault.Input text)) line said = (string_bytes text ≡ line) × (said ≡ Status.Input)
IsLastLine (Err Fault.ReadFault) line said = ⊥
IsLastLine (Err Fault.WriteFault) line said = ⊥
IsLastLine (Err Fault.Memory) line said = Unit {0}

-- What a part gave is this value, or the line of its fault, unless memory ran out.
abbrev pub Reads : {X Y : Type 0} → (X → Y) → Result X Fault → Result Y (List ℕ) → Type 0
Reads view (Ok x) reading = reading ≡ Ok (view x)
Reads view (Err Fault.Words) reading = ⊥
Reads view (Err (Fault.Input line)) reading = reading ≡ Err (string_bytes line)
Reads view (Err Fault.ReadFault) reading = ⊥
Reads view (Err Fault.WriteFault) reading = ⊥
Reads view (Err Fault.Memory) reading = Unit {0}

-- A refused write, as a fault of the command.
abbrev pub out_fault : OutFault → Fault
out_fault OutFault.Failed = Fault.WriteFault
out_fault OutFault.Memory = Fault.Memory

-- A status that stands for an answer, and not for a fault of the outside or want of memory.
abbrev pub IsAnswered : Status → Type 0
IsAnswered Status.Good = Unit {0}
IsAnswered Status.Negative = Unit {0}
IsAnswered Status.Undecided = Unit {0}
IsAnswered Status.Words = Unit {0}
IsAnswered Status.Input = Unit {0}
IsAnswered Status.ReadFault = ⊥
IsAnswered Status.WriteFault = ⊥
IsAnswered Status.Memory = ⊥
