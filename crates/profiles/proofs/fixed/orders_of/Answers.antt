use Rattle.profiles.proofs.FixedLemmas.{orders_push}
use Rattle.profiles.proofs.fixed.orders_of.Goals as goal

pub loop-r-preserved : goal.loop-r-preserved
loop-r-preserved c = rw c.in_ok-push.ensures.items (orders_push c.args.p.now.given c.loop-r.r c.loop-r.orders.items _ c.loop-r.invariant c.in_ok-order_of.ensures)
