use Rattle.std.proofs.Common.{ℕ, ◌<◌, IsTrue}
use Rattle.executor.specs.Tables.{is_open_at}
use Rattle.executor.proofs.times.first_open.Given as goal

abbrev pub invariant-loop-b : goal.invariant-loop-b
invariant-loop-b l = (y : ℕ) → y < l.b → ¬ IsTrue (is_open_at l.times l.phases l.a y)
