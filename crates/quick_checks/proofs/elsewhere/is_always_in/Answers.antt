use Rattle.quick_checks.proofs.Prelude.{arith, nodes_of, seen, sets}
use Rattle.quick_checks.proofs.ElsewhereLemmas.{same_present}
use Rattle.quick_checks.proofs.elsewhere.is_always_in.Goals as goal

pub returns : goal.returns
returns c =
    λ yes. same_present c.args.p.now.given (seen c.args.view.now.region.now c.args.view.now.lens) (sets c.args.view.now.region.now) c.args.v.0 c.args._t (nodes_of c.args.p.now.given c.args.area.now)
    (c.is_narrowed.ensures c.if-is_narrowed.false c.args.view.now.region.now) (c.stays_within.ensures yes c.args._t (omega (arith, c.ranges._t.fits)))
