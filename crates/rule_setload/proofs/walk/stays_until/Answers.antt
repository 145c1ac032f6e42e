use Rattle.rule_setload.proofs.Prelude.{arith}
use Rattle.rule_setload.proofs.walk.stays_until.Goals as goal

pub returns-then-stays_during : goal.returns-then-stays_during
returns-then-stays_during c = record {
  later = c.next_change-next.ensures.later;
  most = c.next_change-next.ensures.most;
  stays = λ t low l. (c.stays_during.ensures c.if-stays_during.true) t (low, omega (arith, l));
}
