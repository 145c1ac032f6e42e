use Rattle.rule_pair.proofs.Prelude.{arith, ◌∙◌}
use Rattle.std.proofs.lemmas.List.{length-set}
use Rattle.rule_pair.proofs.ReachLemmas.{told_more}
use Rattle.rule_pair.proofs.reach.untils_of.Goals as goal

pub loop-n-preserved : goal.loop-n-preserved
loop-n-preserved c = record {
  count = length-set c.loop-n.until c.loop-n.n c.of_others.result.until ∙ c.loop-n.invariant.count;
  each = told_more c.args.table.now c.args.part c.loop-n.until c.loop-n.n c.of_others.result.until (omega (arith, c.loop-n.invariant.count, c.loop-n-test.true)) (rw c.of_others.ensures (omega arith)) c.loop-n.invariant.each;
}
