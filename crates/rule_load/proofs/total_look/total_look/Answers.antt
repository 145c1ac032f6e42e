use Rattle.std.proofs.Common.{arith}
use Rattle.rule_load.proofs.total_look.total_look.Goals as goal

pub returns-then-is_always_free : goal.returns-then-is_always_free
returns-then-is_always_free c = λ t l. (c.is_always_free.ensures c.if-is_always_free.true).each t (omega arith, l)
