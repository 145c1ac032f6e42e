use Rattle.base.proofs.Public.{◌∙◌}
use Rattle.partition.specs.Reach.{at}
use Rattle.partition.proofs.NumberingLemmas.{counted_more, few_before, number_more}
use Rattle.partition.proofs.numbering.count_all.Goals as goal

pub count-requires-clause-few : goal.count-requires-clause-few
count-requires-clause-few c = few_before c.args.table.now c.loop-x.counts c.loop-x.x c.loop-x.invariant.counted c.loop-x-test.true c.requires.few

pub loop-x-preserved : goal.loop-x-preserved
loop-x-preserved c = record {
  made = c.in_ok-push.ensures.items ∙ number_more c.args.table.now c.loop-x.numbers.items c.loop-x.counts c.loop-x.x _ c.loop-x.invariant.made (c.loop-x.invariant.counted (at c.args.table.now c.loop-x.x)) c.count.ensures.before;
  counted = λ g. counted_more c.args.table.now c.loop-x.counts c.count.new.counts c.loop-x.x g (c.loop-x.invariant.counted g) (c.count.ensures.after g);
}
