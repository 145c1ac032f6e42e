use Rattle.std.proofs.Common.{ℕ, ◌<◌}
use Rattle.judge.specs.Prelude.{choices_of, IsLower, IsMetBefore}
use Rattle.judge.proofs.least.least_of_all.Given as goal

abbrev pub invariant-loop-c : goal.invariant-loop-c
invariant-loop-c l = record {
  lower : IsLower l.p.given (choices_of l.plan) l.best l.least;
  met : (c : ℕ) → c < l.c → IsMetBefore l.p.given (choices_of l.plan) l.least c;
}
