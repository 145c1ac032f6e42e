use Rattle.quick_checks.proofs.{Prelude.has_node, Prelude.seen, Prelude.sure, WeighedLemmas.weighed_exceeds}
use Rattle.quick_checks.proofs.weighed.is_above.Goals as goal

pub returns : goal.returns
returns c =
    λ over.
    weighed_exceeds c.args.p.now.given (sure c.args.p.now.given (seen c.args.view.now.region.now c.args.view.now.lens) c.args.t) c.args.weight (has_node c.args.set.now) c.listed-sum.result c.args.amount (rw (← c.area_of-area.ensures) c.listed-sum.ensures) over
