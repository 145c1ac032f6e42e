use Rattle.rule_load.proofs.Prelude.{ℕ, ◌<◌, IsFreeDuring, IsOverload, one, sets, StartNoSooner}
use Rattle.rule_load.proofs.doubt.load_doubt.Given as goal

abbrev pub invariant-loop-r : goal.invariant-loop-r
invariant-loop-r l = record {
  free : (r : ℕ) → r < l.r → IsFreeDuring (λ b. IsOverload l.p.given b r (one l.n.0)) l.p.given (sets l.g) l.x;
  start : StartNoSooner l.p.given l.kept.near.now l.kept.firsts.now l.start;
}
