use Rattle.std.proofs.Common.{arith}
use Rattle.rule_place.proofs.DirtyLemmas.{dirty_more}
use Rattle.rule_place.proofs.nodes.set_all_dirty.Goals as goal

pub loop-i-preserved : goal.loop-i-preserved
loop-i-preserved c = rw c.set_dirty.ensures (dirty_more c.loop-i.i c.args.dirty.now c.loop-i.dirty (omega (arith, c.loop-i-test.true, c.count-i-end.ensures, c.loop-i.invariant.count)) c.loop-i.invariant)
