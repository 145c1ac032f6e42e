use Rattle.std.proofs.Common.{arith}
use Rattle.rule_load.proofs.total_look.free_until.Goals as goal

pub returns-then-is_free : goal.returns-then-is_free
returns-then-is_free c = record {
  later = omega (arith, c.next_change_anywhere-next.ensures.later, c.halves.invariant.later);
  most = c.halves.invariant.most;
  clean = λ t low l. (c.is_free.ensures c.if-is_free.true).each t (low, omega (arith, l));
}
