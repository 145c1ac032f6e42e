use Rattle.explain.proofs.CoreLemmas.{is_unsettled, still_needed}
use Rattle.explain.proofs.explaining.keep_costs.Goals as goal

pub returns-else-is_settled : goal.returns-else-is_settled
returns-else-is_settled c = λ kept numbers needed lt is.
    let p = c.args.p.now.given in
    let here = rw c.constraints.ensures.constraints at c.index-constraints-c.is in
    still_needed p kept c.args.costs.now.items c.args.c numbers (is_unsettled p c.args.c _ c.is_settled.result here c.is_settled.ensures c.if-is_settled.false) needed lt is
