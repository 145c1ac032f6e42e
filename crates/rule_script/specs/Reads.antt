-- What the reading of a script answers.
use Rattle.std.specs.Prelude.{◌≡◌, ℕ, List, Result, Ok, Err}
use Rattle.catalogue.specs.Instance.{Instance, SoundInstance}
use Rattle.rule_script.specs.Bindings.{Bindings}
use Rattle.rule_script.specs.Script.{at, Progress, script_done}
use Rattle.rule_script.specs.declared.faults.Mistake.{Mistake}
use Rattle.rule_script.specs.declared.faults.Refusal.{Refusal}
use Rattle.rule_script.specs.declared.faults.Refusal.TheVariants as refusal
use Rattle.rule_script.specs.declared.faults.Refusal.TheVariants.{Wrong}
use Rattle.rule_script.specs.declared.faults.ScriptFault.{ScriptFault}
use Rattle.rule_script.specs.declared.faults.ScriptFault.TheVariants.{Line, Memory}

-- a refusal of the line of that number
abbrev pub fault_at : ℕ → Refusal → ScriptFault
fault_at number (Wrong m) = Line number m
fault_at number refusal.Memory = Memory

-- the problem that stands after all lines, or the first line that is wrong; of want of memory nothing is said
abbrev pub IsReading : Instance → Result Progress (ℕ × Mistake) → Result (Unit {0}) ScriptFault → Type 0
IsReading after found (Ok _) = (env : Bindings) × (found ≡ Ok (at after env))
IsReading after found (Err (Line number m)) = found ≡ Err (number, m)
IsReading after found (Err Memory) = Unit {0}

abbrev pub ReadsLines : Instance → List ℕ → Result (Unit {0}) ScriptFault → Instance → Type 0
ReadsLines p bytes result after = IsReading after (script_done p bytes) result

abbrev pub ReadsScript : Instance → List ℕ → Result SoundInstance ScriptFault → Type 0
ReadsScript p bytes (Ok q) = IsReading q.given (script_done p bytes) (Ok tt)
ReadsScript p bytes (Err f) = IsReading p (script_done p bytes) (Err f)
