use Rattle.rule_pair.proofs.Prelude.{below_more, IsTold, sets}
use Rattle.rule_pair.specs.Prelude.{class_of, has_machine}
use Rattle.rule_pair.proofs.ApartLemmas.{longer_both, told_longer}
use Rattle.rule_pair.proofs.strangers.tell_all.Goals as goal

pub loop-i-preserved : goal.loop-i-preserved
loop-i-preserved c =
    let longer = c.tell_machine.ensures.longer in
    record {
      ordered = c.tell_machine.ensures.ordered;
      longer = longer_both _ _ _ c.loop-i.invariant.longer longer;
      told = below_more (λ v. IsTold c.args.p.now.given (sets c.args.g.now) c.tell_machine.new.table c.args.from (class_of (has_machine c.args.members.now) v) v) c.loop-i.i
          (λ v h. told_longer _ _ _ _ _ _ _ longer (c.loop-i.invariant.told v h))
          (rw c.class_of.ensures at (c.tell_machine.ensures.told c.if-not-tell_machine.false));
    }
