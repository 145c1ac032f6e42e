-- What the bytes of an instance mean.
use Rattle.std.specs.Prelude.{ℕ, List, Result, Ok, Err, codes}
use Rattle.plan_io.specs.Files.{Files, bytes_of}
use Rattle.catalogue.specs.Instance.{Instance}
use Rattle.instance_json.specs.{Instance.instance_of, Texts.fault_text, declared.fault.InstanceFault.InstanceFault}
use Rattle.command_frame.specs.Inputs.{input_line}

abbrev pub instance_line : (text : List ℕ) → List ℕ
instance_line text = input_line (codes "instance") text

-- A problem, or the line of its first fault.
abbrev pub lined : Result Instance InstanceFault → Result Instance (List ℕ)
lined (Ok p) = Ok p
lined (Err f) = Err (instance_line (fault_text f))

-- The problem of these bytes, or the line that refuses them.
unfoldable pub reading_of : List ℕ → Result Instance (List ℕ)
reading_of bytes = lined (instance_of bytes)

-- The problem in the file of this name, or the line that refuses it.
abbrev pub instance_in : Files → (name : List ℕ) → Result Instance (List ℕ)
instance_in files name = reading_of (bytes_of (files name))
