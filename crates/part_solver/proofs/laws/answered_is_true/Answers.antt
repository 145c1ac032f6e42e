use Rattle.part_solver.proofs.Public.{answered_is_true}
use Rattle.part_solver.proofs.laws.answered_is_true.Goals as goal

pub returns : goal.returns
returns c = answered_is_true
