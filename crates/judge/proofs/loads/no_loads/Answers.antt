use Rattle.judge.proofs.Tables.{cell_none}
use Rattle.judge.proofs.loads.no_loads.Goals as goal

pub returns : goal.returns
returns c = cell_none 512 8
