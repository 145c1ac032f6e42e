use Rattle.standings.proofs.{Prelude.arith, RowLemmas.first_there}
use Rattle.standings.proofs.numbers.choice_at_last_place.Goals as goal

pub returns : goal.returns
returns c =
    first_there c.args.domain.now c.rows-rows.result.now _ c.rows-rows.ensures.items c.rows-rows.ensures.climbs (omega (arith, c.if-count-eq0.false))
