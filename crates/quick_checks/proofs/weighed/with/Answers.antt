use Rattle.quick_checks.proofs.{Prelude.arith, Prelude.nodes_of, Prelude.seen, Prelude.sure, WeighedLemmas.weighed_more}
use Rattle.quick_checks.proofs.weighed.with.Goals as goal

pub returns : goal.returns
returns c =
    weighed_more c.args.p.now.given (sure c.args.p.now.given (seen c.args.view.now.region.now c.args.view.now.lens) c.args.t) c.args.weight (nodes_of c.args.p.now.given c.args.area.now) c.args.sum c.args.v c.held.result c.requires.sum
    (omega (arith, c.if-i-sum.false)) (omega arith) c.held.ensures.held c.held.ensures.small
