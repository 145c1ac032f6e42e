use Rattle.std.proofs.Common.{arith}
use Rattle.bound.proofs.EndLemmas.{first_there}
use Rattle.bound.proofs.ends.last_place.Goals as goal

pub returns : goal.returns
returns c = first_there c.args.domain.now c.rows-rows.result.now _ c.rows-rows.ensures.items c.rows-rows.ensures.climbs (omega (arith, c.if-count-eq0.false))
