use Rattle.rule_setload.proofs.Prelude.{arith}
use Rattle.rule_setload.proofs.walk.stays_always.Goals as goal

pub returns-then-stays_during : goal.returns-then-stays_during
returns-then-stays_during c = λ _ t l. (c.stays_during.ensures c.if-stays_during.true) t (omega arith, omega (arith, l, c.horizon.ensures.horizon))
