use Rattle.quick_checks.proofs.{Prelude.arith, Prelude.nodes_of, Prelude.seen, KnownLemmas.stands_inside}
use Rattle.quick_checks.proofs.known.is_told_in.Goals as goal

pub returns-in-Some : goal.returns-in-Some
returns-in-Some c =
    λ yes.
    let at = c.stands_in.ensures yes in
    stands_inside c.args.p.now.given (seen c.args.view.now.region.now c.args.view.now.lens) c.args.v.0 c.args.t c.in-Some.k (omega (arith, c.ranges.t.fits)) c.in-Some.ensures at.0 (nodes_of c.args.p.now.given c.args.area.now) at.1 at.2
