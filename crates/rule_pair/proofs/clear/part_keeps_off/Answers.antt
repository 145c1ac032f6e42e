use Rattle.rule_pair.proofs.Prelude.{arith, KeepsOff, sets, each_member}
use Rattle.rule_pair.proofs.clear.part_keeps_off.Goals as goal

pub returns : goal.returns
returns c = each_member (λ w. KeepsOff c.args.p.now.given (sets c.args.g.now) c.args.table.now c.args.part c.args.from w) c.args.machines.now c.loop-i.i (omega arith) c.loop-i.invariant
