use Rattle.rule_load.proofs.Prelude.{ℕ, ◌<◌, all_nodes, IsFreeDuring, IsOverload, sets}
use Rattle.rule_load.specs.Prelude.{always}
use Rattle.rule_load.proofs.total_look.is_always_free.Given as goal

abbrev pub invariant-loop-r : goal.invariant-loop-r
invariant-loop-r l = (r : ℕ) → r < l.r → IsFreeDuring (λ b. IsOverload l.p.given b r (all_nodes l.p.given)) l.p.given (sets l.g) (always l.p.given)
