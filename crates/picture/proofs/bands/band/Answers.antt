use Rattle.std.proofs.Common.{arith}
use Rattle.picture.proofs.Placed.{bars_more}
use Rattle.picture.proofs.bands.band.Goals as goal

pub returns-clause-band : goal.returns-clause-band
returns-clause-band c = record {
  bars = bars_more _ _ _ _ _ _ _ _ _ c.in_ok-bars.ensures.bars c.tall_of-tall.ensures.holds;
  twins = bars_more _ _ _ _ _ _ _ _ _ c.in_ok-twins.ensures.bars (let more = c.in_ok-bars.ensures.kept in let holds = c.tall_of-tall.ensures.holds in omega arith);
  curves = c.in_ok-curves.ensures;
}
