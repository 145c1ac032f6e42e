use Rattle.std.proofs.Common.{◌≡◌, map, take}
use Rattle.json_text.specs.Out.{items}
use Rattle.serde_json.specs.Data.{string}
use Rattle.instance_make.proofs.printing.resources_list.Given as goal

abbrev pub invariant-loop-name : goal.invariant-loop-name
invariant-loop-name l = items l.list ≡ map string (take l.name-index l.resources)
