-- What the reading of a script answers.
use Rattle.std.proofs.Common.{◌≡◌, ℕ, List, Ok, ap, Err, codes}
use Rattle.catalogue.specs.Instance.{SoundInstance}
use Rattle.rule_script.specs.Reads.{ReadsScript}
use Rattle.rule_script.specs.Script.{at}
use Rattle.rule_script.specs.declared.faults.{Mistake.Mistake, ScriptFault.ScriptFault}
use Rattle.rule_script.proofs.Public.{scripts_add}
use Rattle.command_make.specs.Prelude.{AddsTo, Instance, script_line, script_lined, script_reading_of, whole_of, wrong_text}

-- the problem that it makes
pub the_script : (p : Instance) (bytes : List ℕ) (q : SoundInstance) → ReadsScript p bytes (Ok q) → script_reading_of p (Ok bytes) ≡ Ok q.given
the_script p bytes q h = ap script_lined h.1

-- what it adds stands after the constraints that were there
pub adds_constraints : (p : Instance) (bytes : List ℕ) (q : SoundInstance) → ReadsScript p bytes (Ok q) → AddsTo p q.given
adds_constraints p bytes q h = scripts_add p bytes (at q.given h.0) h.1

-- the first line that is wrong
pub first_wrong_line : (p : Instance) (bytes : List ℕ) (number : ℕ) (mistake : Mistake) → ReadsScript p bytes (Err (ScriptFault.Line number mistake)) → script_reading_of p (Ok bytes) ≡ Err (script_line (wrong_text number mistake))
first_wrong_line p bytes number mistake h = ap script_lined h

-- the line that its bytes are too many refuses it
pub long_script : (p : Instance) (bytes line : List ℕ) → whole_of (codes "script") bytes ≡ Err line → script_reading_of p (whole_of (codes "script") bytes) ≡ Err line
long_script p bytes line h = ap (script_reading_of p) h

-- its bytes are not too many
pub short_script : (p : Instance) (bytes text : List ℕ) → whole_of (codes "script") bytes ≡ Ok text → script_reading_of p (whole_of (codes "script") bytes) ≡ script_reading_of p (Ok text)
short_script p bytes text h = ap (script_reading_of p) h
