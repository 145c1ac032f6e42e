use Rattle.std.proofs.Common.{ℕ, ◌-◌, ◌<◌}
use Rattle.judge.specs.Prelude.{choices_of, HoldsAt}
use Rattle.judge.proofs.least.least_held.Given as goal

abbrev pub invariant-loop-at : goal.invariant-loop-at
invariant-loop-at l = (u : ℕ) → u < l.at → HoldsAt l.p.given (choices_of l.plan) u l.c

abbrev pub decreases-loop-at : goal.decreases-loop-at
decreases-loop-at l = l.best - l.at
