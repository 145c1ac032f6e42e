use Rattle.quick_checks.proofs.Prelude.{arith, ltb-true, seen}
use Rattle.quick_checks.proofs.ComingLemmas.{comes_present}
use Rattle.quick_checks.proofs.coming.comes_on.Goals as goal

pub returns-then-has_come : goal.returns-then-has_come
returns-then-has_come c =
    λ some. comes_present c.args.p.now.given (seen c.args.view.now.region.now c.args.view.now.lens) c.args.v.0 c.args.n.0 c.args.t (omega (arith, c.ranges.t.fits)) (c.has_come.ensures c.if-has_come.true c.args.view.now.region.now) (omega (arith, ltb-true 0 c.gain.result some, c.gain.ensures.gain))
