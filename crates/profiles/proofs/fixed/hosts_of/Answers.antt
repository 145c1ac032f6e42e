use Rattle.profiles.proofs.FixedLemmas.{hosts_push}
use Rattle.profiles.proofs.fixed.hosts_of.Goals as goal

pub loop-i-preserved : goal.loop-i-preserved
loop-i-preserved c = rw c.in_ok-push.ensures.items (hosts_push c.args.p.now.given c.loop-i.i c.loop-i.hosts.items c.host_of.result c.loop-i.invariant c.host_of.ensures)
