-- What the reading of a line gives. What is said of bytes is said only of sources that tell them.
use Rattle.std.specs.Prelude.{◌≡◌, ◌⊎◌, ℕ, List, Bool, IsTrue, Result, Ok, Err, IsErrOf}
use Rattle.plan_io.specs.Causes.{Rose}
use Rattle.event_lines.specs.declared.faults.LineFault.{LineFault}
use Rattle.event_lines.specs.declared.faults.LineFault.TheVariants.{ReadFault, Memory}
use Rattle.event_lines.specs.declared.lines.Line.{Line}
use Rattle.event_lines.specs.Lines.{BeginsLine, ReadsLine}

-- a line is taken, or no more than its beginning
abbrev pub LineGives : Bool → List ℕ → List ℕ → List ℕ → Result Line LineFault → Type 0
LineGives told bytes text rest (Ok found) = IsTrue told → ReadsLine bytes found text rest
LineGives told bytes text rest (Err ReadFault) = IsTrue told → BeginsLine bytes rest
LineGives told bytes text rest (Err Memory) = IsTrue told → BeginsLine bytes rest

-- a failed read comes only where the source's count rose, and elsewhere the count is as before
pub record LineCauses {T : Type 0} (before after : ℕ) (result : Result T LineFault) : Type 0 where
  pub failed : IsErrOf result ReadFault → Rose before after
  pub kept : (after ≡ before) ⊎ IsErrOf result ReadFault
