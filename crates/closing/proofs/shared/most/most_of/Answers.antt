use Rattle.closing.proofs.Prelude.{ap, sym, choices, nodes_of, sets}
use Rattle.closing.proofs.MostLemmas.{rows_most, stay_most}
use Rattle.closing.proofs.shared.most.most_of.Goals as goal

pub returns-then-rows-eq0-clause-most : goal.returns-then-rows-eq0-clause-most
returns-then-rows-eq0-clause-most c =
    stay_most c.args.p.now.given c.args.v.0 c.args.weight (nodes_of c.args.p.now.given c.args.area.now) (sets c.args.g.now) c.domain.result.now c.rows-rows.result.now c.most_under.result (sym (ap choices c.domain.ensures.domain))
    c.rows-rows.ensures.items c.rows-rows.ensures.climbs c.if-rows-eq0.true c.most_under.ensures.most

pub returns-clause-most : goal.returns-clause-most
returns-clause-most c =
    rows_most c.args.p.now.given c.args.v.0 c.args.weight (nodes_of c.args.p.now.given c.args.area.now) c.unit-one.result c.unit-one.ensures.unit (sets c.args.g.now) c.domain.result.now c.rows-rows.result.now c.is_hosted.result c.has_row_in.result
    c.counted.result c.counted-2.result (sym (ap choices c.domain.ensures.domain)) c.rows-rows.ensures.items c.rows-rows.ensures.climbs c.is_hosted.ensures c.has_row_in.ensures c.counted.ensures c.counted-2.ensures
