use Rattle.power_bounds.proofs.Prelude.{arith}
use Rattle.power_bounds.proofs.power.power_until.Goals as goal

pub returns-then-power_during : goal.returns-then-power_during
returns-then-power_during c = record {
  later = c.next_change-next.ensures.later;
  most = c.next_change-next.ensures.most;
  stays = λ t low l. (c.power_during.ensures c.if-power_during.true) t (low, omega (arith, l));
}
