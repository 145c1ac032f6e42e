-- How the fault of a value is printed.
use Rattle.std.specs.Prelude.{ℕ, List, codes}
use Rattle.json_walk.specs.declared.fault.FaultKind.{FaultKind}
use Rattle.json_walk.specs.declared.fault.FaultKind.TheVariants.{Missing, WrongKind, OutOfRange, Unknown}

-- what is wrong with a value
unfoldable pub kind_text : FaultKind → List ℕ
kind_text Missing = codes "missing"
kind_text WrongKind = codes "wrong kind"
kind_text OutOfRange = codes "out of range"
kind_text Unknown = codes "unknown"
