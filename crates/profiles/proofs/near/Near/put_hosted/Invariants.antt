use Rattle.profiles.proofs.Prelude.{AreNear}
use Rattle.profiles.proofs.near.Near.put_hosted.Given as goal

abbrev pub invariant-loop-i : goal.invariant-loop-i
invariant-loop-i l = AreNear l.p.given l.i l.self
