use Rattle.std.proofs.Common.{◌≡◌}
use Rattle.json_text.specs.Out.{members}
use Rattle.instance_make.proofs.Putting.{amounts_to}
use Rattle.instance_make.proofs.amounts.amounts_value.Given as goal

abbrev pub invariant-loop-r : goal.invariant-loop-r
invariant-loop-r l = members l.object ≡ amounts_to l.cluster.given.resources l.amounts l.r
