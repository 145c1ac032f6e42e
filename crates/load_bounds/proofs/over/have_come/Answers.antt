use Rattle.std.proofs.Common.{sym, ◌∙◌, arith}
use Rattle.load_bounds.proofs.OverLemmas.{one_row, row_comes}
use Rattle.load_bounds.proofs.over.have_come.Goals as goal

pub returns-in-len1-clause-come : goal.returns-in-len1-clause-come
returns-in-len1-clause-come c = λ yes.
    (row_comes c.args.domain.now c.rows.result.now c.args.n c.args.t _ (one_row c.rows.result.now _ (omega (arith, c.in-len1.len_at_least)) (omega (arith, c.in-len1.len_below)))
    c.rows.ensures.items c.rows.ensures.climbs (sym c.idle.ensures ∙ c.if-idle.false) (c.is_there.ensures.node yes) (c.is_there.ensures.by yes)).0

pub returns-in-len1-clause-some : goal.returns-in-len1-clause-some
returns-in-len1-clause-some c = λ yes.
    (row_comes c.args.domain.now c.rows.result.now c.args.n c.args.t _ (one_row c.rows.result.now _ (omega (arith, c.in-len1.len_at_least)) (omega (arith, c.in-len1.len_below)))
    c.rows.ensures.items c.rows.ensures.climbs (sym c.idle.ensures ∙ c.if-idle.false) (c.is_there.ensures.node yes) (c.is_there.ensures.by yes)).1
