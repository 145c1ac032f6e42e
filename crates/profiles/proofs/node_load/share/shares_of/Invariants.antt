use Rattle.profiles.proofs.Prelude.{AreShares, AreSmall}
use Rattle.profiles.proofs.node_load.share.shares_of.Given as goal

abbrev pub invariant-loop-i : goal.invariant-loop-i
invariant-loop-i l = record { shares : AreShares l.p.given l.n.0 l.r l.i l.shares.items; small : AreSmall l.shares.items }
