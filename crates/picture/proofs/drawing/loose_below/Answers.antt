use Rattle.picture.proofs.Whole.{loose_at}
use Rattle.picture.proofs.drawing.loose_below.Goals as goal

pub returns-clause-bars : goal.returns-clause-bars
returns-clause-bars c = loose_at _ _ _ _ _ _ _ c.in_ok-bars.ensures.bars
