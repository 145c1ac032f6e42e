use Rattle.load_bounds.proofs.HoldOnLemmas.{goes_more}
use Rattle.load_bounds.proofs.hold_on.all_go_on.Goals as goal

pub loop-i-preserved : goal.loop-i-preserved
loop-i-preserved c = goes_more c.args.p.now.given c.args.v.0 c.args.rows.now c.loop-i.i _ c.loop-i-test.true c.loop-i.invariant (c.goes_on.ensures c.if-not-goes_on.false)
