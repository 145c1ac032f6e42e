use Rattle.domains.specs.Kept.{AreFixed}
use Rattle.domains.proofs.listing.first_from.Given as goal

abbrev pub invariant-loop-i : goal.invariant-loop-i
invariant-loop-i l = AreFixed l.domains l.from l.i
