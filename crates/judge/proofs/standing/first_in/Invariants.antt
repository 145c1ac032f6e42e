use Rattle.std.proofs.Common.{ℕ, ◌<◌, ◌≤◌}
use Rattle.judge.specs.Prelude.{capacity_of, cell}
use Rattle.judge.proofs.standing.first_in.Given as goal

abbrev pub invariant-loop-i : goal.invariant-loop-i
invariant-loop-i l = (r : ℕ) → r < l.i → cell l.table l.n.0 r ≤ capacity_of l.p.given l.n.0 r
