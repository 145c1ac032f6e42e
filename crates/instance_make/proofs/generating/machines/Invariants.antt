use Rattle.std.proofs.Common.{◌≡◌}
use Rattle.instance_make.specs.Generated.{from, vms}
use Rattle.instance_make.proofs.generating.machines.Given as goal

abbrev pub invariant-loop-i : goal.invariant-loop-i
invariant-loop-i l = l.ids.items ≡ vms (from l.first l.i)
