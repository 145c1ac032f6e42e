use Rattle.std.proofs.Common.{◌<◌, length}
use Rattle.branching.proofs.ends.soonest.Given as goal

abbrev pub invariant-loop-k : goal.invariant-loop-k
invariant-loop-k l = l.best < length l.rows
