-- How a fault is printed.
use Rattle.std.specs.Prelude.{ℕ, List, ◌++◌, codes}
use Rattle.json_walk.specs.Texts.{kind_text}
use Rattle.instance_json.specs.declared.fault.InstanceFault.{InstanceFault}
use Rattle.instance_json.specs.declared.fault.InstanceFault.TheVariants.{TooLong, NotJson, Field, Twice, NoSuch, BadHost, Limit, Memory}

-- the path, where there is one, and what is wrong
unfoldable pub fault_text : InstanceFault → List ℕ
fault_text TooLong = codes "too long"
fault_text NotJson = codes "not json"
fault_text (Field f) = f.path ++ codes " " ++ kind_text f.kind
fault_text (Twice p) = p ++ codes " " ++ codes "twice"
fault_text (NoSuch p) = p ++ codes " " ++ codes "no such name"
fault_text (BadHost p) = p ++ codes " " ++ codes "bad host"
fault_text (Limit p) = p ++ codes " " ++ codes "over limit"
fault_text Memory = codes "out of memory"
