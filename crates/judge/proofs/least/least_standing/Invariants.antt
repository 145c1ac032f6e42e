use Rattle.std.proofs.Common.{ℕ, ◌+◌, ◌-◌, ◌<◌, ◌≤◌}
use Rattle.judge.specs.Prelude.{choices_of, StandsAt}
use Rattle.judge.proofs.least.least_standing.Given as goal

abbrev pub invariant-loop-t : goal.invariant-loop-t
invariant-loop-t l = record {
  bounded : l.t ≤ l.p.given.horizon + 1;
  stands : (u : ℕ) → u < l.t → StandsAt l.p.given (choices_of l.plan) u;
}

abbrev pub decreases-loop-t : goal.decreases-loop-t
decreases-loop-t l = l.p.given.horizon + 1 - l.t
