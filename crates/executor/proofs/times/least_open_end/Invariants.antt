use Rattle.executor.specs.Tables.{IsLeastOpenEnd}
use Rattle.executor.proofs.times.least_open_end.Given as goal

abbrev pub invariant-loop-x : goal.invariant-loop-x
invariant-loop-x l = IsLeastOpenEnd l.times l.phases l.x l.least
