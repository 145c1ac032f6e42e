use Rattle.std.proofs.Common.{arith, get_or}
use Rattle.rule_constraint.proofs.IndexLemmas.{number_at}
use Rattle.rule_constraint.proofs.disturb.set_each_dirty.Goals as goal

pub set_dirty-requires : goal.set_dirty-requires
set_dirty-requires c =
    omega (arith, c.requires (get_or c.args.numbers.now c.loop-k.k 0) (number_at c.args.numbers.now c.loop-k.k c.loop-k-test.true), c.loop-k.invariant.count)
