use Rattle.picture.proofs.Whole.{loose_lines_at}
use Rattle.picture.proofs.heat_map.loose_below.Goals as goal

pub returns-clause-lines : goal.returns-clause-lines
returns-clause-lines c = loose_lines_at _ _ _ _ _ _ c.in_ok-lines.ensures
