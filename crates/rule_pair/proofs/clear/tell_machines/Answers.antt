use Rattle.rule_pair.proofs.Prelude.{arith, IsTold, part_of, sets, VmId, each_member, each_more}
use Rattle.rule_pair.proofs.ApartLemmas.{longer_both, told_longer}
use Rattle.rule_pair.proofs.clear.tell_machines.Goals as goal

pub loop-i-preserved : goal.loop-i-preserved
loop-i-preserved c =
    let longer = c.tell_machine.ensures.longer in
    let none : VmId = record { 0 = 0 } in
    record {
      ordered = c.tell_machine.ensures.ordered;
      longer = longer_both _ _ _ c.loop-i.invariant.longer longer;
      told = each_more (λ v. IsTold c.args.p.now.given (sets c.args.g.now) c.tell_machine.new.table c.args.from (part_of c.args.part v) v) c.args.machines.now c.loop-i.i none c.loop-i-test.true
          (λ k d h. told_longer _ _ _ _ _ _ _ longer (c.loop-i.invariant.told k d h))
          (rw c.part_of.ensures at (c.tell_machine.ensures.told c.if-not-tell_machine.false));
    }

pub returns : goal.returns
returns c = record {
  ordered = c.loop-i.invariant.ordered;
  longer = c.loop-i.invariant.longer;
  told = λ yes. each_member (λ v. IsTold c.args.p.now.given (sets c.args.g.now) c.loop-i.table c.args.from (part_of c.args.part v) v) c.args.machines.now c.loop-i.i (omega arith) c.loop-i.invariant.told;
}
