use Rattle.rule_pair.proofs.Prelude.{arith, KeepsOff, sets, VmId, each_member, each_more}
use Rattle.rule_pair.proofs.clear.machines_keep_off.Goals as goal

pub machine_keeps_off-requires-clause-ends : goal.machine_keeps_off-requires-clause-ends
machine_keeps_off-requires-clause-ends c = c.all_ends-ends.ensures _

pub loop-i-preserved : goal.loop-i-preserved
loop-i-preserved c =
    let none : VmId = record { 0 = 0 } in
    each_more (λ w. KeepsOff c.args.p.now.given (sets c.args.g.now) c.args.table.now w c.args.from w) c.args.machines.now c.loop-i.i none c.loop-i-test.true c.loop-i.invariant c.in-Clear.ensures

pub returns : goal.returns
returns c = each_member (λ w. KeepsOff c.args.p.now.given (sets c.args.g.now) c.args.table.now w c.args.from w) c.args.machines.now c.loop-i.i (omega arith) c.loop-i.invariant
