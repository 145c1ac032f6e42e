use Rattle.load_bounds.proofs.Prelude.{sets}
use Rattle.load_bounds.proofs.HoldOnLemmas.{hold_more}
use Rattle.load_bounds.proofs.hold_on.stayers_hold_on.Goals as goal

pub loop-i-preserved : goal.loop-i-preserved
loop-i-preserved c = hold_more c.args.p.now.given (sets c.args.g.now) c.loop-i.i c.loop-i.invariant (c.holds_or_moves.ensures c.if-not-holds_or_moves.false)
