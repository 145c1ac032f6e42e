-- Which bytes have a value.
use Rattle.std.specs.Prelude.{ℕ, List, Option, Some, None, if◌then◌else◌}
use Rattle.std.specs.Str.{is_utf8}
use Rattle.serde_json.specs.Data.{Data}
use Rattle.serde_json.specs.Read.{read}
use Rattle.json_walk.specs.declared.fault.JsonFault.{JsonFault}
use Rattle.json_walk.specs.declared.fault.JsonFault.TheVariants.{NotJson, Memory}

-- the most bytes of a text that is read
abbrev pub max_text_bytes : ℕ
max_text_bytes = 67108864

-- UTF-8 that serde_json reads as a value
abbrev pub json_of : List ℕ → Option Data
json_of bytes = if is_utf8 bytes then read bytes else None

-- the fault that an error names; want of memory names none
abbrev pub json_fault_of : JsonFault → Option JsonFault
json_fault_of NotJson = Some NotJson
json_fault_of Memory = None
