use Rattle.std.proofs.Common.{◌≡◌}
use Rattle.instance_make.specs.Generated.{from, set_of}
use Rattle.instance_make.proofs.generating.nodes.Given as goal

abbrev pub invariant-loop-n : goal.invariant-loop-n
invariant-loop-n l = l.set ≡ set_of (from l.first l.n)
