use Rattle.profiles.proofs.FixedLemmas.{uses_push}
use Rattle.profiles.proofs.fixed.most_uses.Goals as goal

pub loop-r-preserved : goal.loop-r-preserved
loop-r-preserved c = rw c.in_ok-push.ensures.items (uses_push c.args.p.now.given c.loop-r.r c.loop-r.most.items c.most_of.result c.loop-r.invariant c.most_of.ensures)
