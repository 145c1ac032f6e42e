use Rattle.profiles.proofs.FixedLemmas.{bases_push}
use Rattle.profiles.proofs.fixed.total_bases.Goals as goal

pub loop-r-preserved : goal.loop-r-preserved
loop-r-preserved c = rw c.in_ok-push.ensures.items (bases_push c.args.p.now.given c.loop-r.r c.loop-r.bases.items c.total_base.result c.loop-r.invariant c.total_base.ensures)
