use Rattle.rule_pair.proofs.Prelude.{arith, IsTold, sets}
use Rattle.rule_pair.proofs.ApartLemmas.{each_part, longer_both, next_part, told_longer}
use Rattle.rule_pair.proofs.clear.tell_parts.Goals as goal

pub loop-i-preserved : goal.loop-i-preserved
loop-i-preserved c =
    let longer = c.tell_machines.ensures.longer in
    record {
      ordered = c.tell_machines.ensures.ordered;
      longer = longer_both _ _ _ c.loop-i.invariant.longer longer;
      told = next_part (IsTold c.args.p.now.given (sets c.args.g.now) c.tell_machines.new.table c.args.from) c.args.parts.now c.items.result.now c.index-parts-i.result c.loop-i.i c.loop-i-test.true c.items.ensures c.index-parts-i.is
          (λ k v h there. told_longer _ _ _ _ _ _ _ longer (c.loop-i.invariant.told k v h there))
          (c.tell_machines.ensures.told c.if-not-tell_machines.false);
    }

pub returns : goal.returns
returns c = λ yes. each_part (IsTold c.args.p.now.given (sets c.args.g.now) c.loop-i.table c.args.from) c.args.parts.now c.loop-i.i (omega arith) c.loop-i.invariant.told
