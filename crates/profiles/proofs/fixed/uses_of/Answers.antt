use Rattle.profiles.proofs.FixedLemmas.{uses_next}
use Rattle.profiles.proofs.fixed.uses_of.Goals as goal

pub loop-i-preserved : goal.loop-i-preserved
loop-i-preserved c = rw (c.in_ok-push.ensures.items, c.base.ensures.base, c.demand.ensures.demand) (uses_next c.args.p.now.given c.args.r c.loop-i.i c.loop-i.order.items c.loop-i.invariant)
