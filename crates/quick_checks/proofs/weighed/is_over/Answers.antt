use Rattle.quick_checks.proofs.{Prelude.has_node, Prelude.seen, Prelude.sure, WeighedLemmas.weighed_over}
use Rattle.quick_checks.proofs.weighed.is_over.Goals as goal

pub returns : goal.returns
returns c =
    λ over.
    weighed_over c.args.p.now.given (sure c.args.p.now.given (seen c.args.view.now.region.now c.args.view.now.lens) c.args.t) c.args.r (has_node c.args.set.now) c.used_in-sum.result c.room_in.result (rw (← c.area_of-area.ensures) c.used_in-sum.ensures) (rw (← c.area_of-area.ensures) c.room_in.ensures) over
