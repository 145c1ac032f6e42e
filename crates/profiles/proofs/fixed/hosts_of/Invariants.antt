use Rattle.profiles.proofs.Prelude.{AreHosts}
use Rattle.profiles.proofs.fixed.hosts_of.Given as goal

abbrev pub invariant-loop-i : goal.invariant-loop-i
invariant-loop-i l = AreHosts l.p.given l.i l.hosts.items
