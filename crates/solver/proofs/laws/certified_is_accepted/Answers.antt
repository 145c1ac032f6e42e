use Rattle.solver.proofs.Public.{certified_is_accepted}
use Rattle.solver.proofs.laws.certified_is_accepted.Goals as goal

pub returns : goal.returns
returns c = certified_is_accepted
