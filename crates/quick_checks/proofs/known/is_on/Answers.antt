use Rattle.quick_checks.proofs.{Prelude.arith, Prelude.seen, KnownLemmas.stands_there}
use Rattle.quick_checks.proofs.known.is_on.Goals as goal

pub returns-in-Some : goal.returns-in-Some
returns-in-Some c =
    λ yes. stands_there c.args.p.now.given (seen c.args.view.now.region.now c.args.view.now.lens) c.args.v.0 c.args.t c.in-Some.k (omega (arith, c.ranges.t.fits)) c.in-Some.ensures c.args.n.0 (rw c.stands_on.ensures at yes)
