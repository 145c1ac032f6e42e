-- What the bytes of a script mean for a problem.
use Rattle.std.specs.Prelude.{ℕ, List, Result, Ok, Err, codes}
use Rattle.plan_io.specs.Files.{Files, bytes_of}
use Rattle.catalogue.specs.Instance.{Instance}
use Rattle.rule_script.specs.{Script.Progress, Script.script_done, Texts.wrong_text, declared.faults.Mistake.Mistake}
use Rattle.command_frame.specs.Inputs.{input_line, whole_of}

abbrev pub script_line : (text : List ℕ) → List ℕ
script_line text = input_line (codes "script") text

-- The problem after all lines, or the line that tells the first that is wrong: its number, and what is wrong with it.
abbrev pub script_lined : Result Progress (ℕ × Mistake) → Result Instance (List ℕ)
script_lined (Ok after) = Ok after.given
script_lined (Err wrong) = Err (script_line (wrong_text wrong.0 wrong.1))

-- The same by the bytes of a script, or by the line that refuses them.
abbrev pub script_reading_of : Instance → Result (List ℕ) (List ℕ) → Result Instance (List ℕ)
script_reading_of p (Ok bytes) = script_lined (script_done p bytes)
script_reading_of p (Err line) = Err line

-- The problem that the script in the file of this name makes of p, or the line that refuses it.
abbrev pub script_in : Instance → Files → (name : List ℕ) → Result Instance (List ℕ)
script_in p files name = script_reading_of p (whole_of (codes "script") (bytes_of (files name)))
