use Rattle.part_laws.proofs.Public.{answered_is_accepted}
use Rattle.part_laws.proofs.laws.answered_is_accepted.Goals as goal

pub returns : goal.returns
returns c = answered_is_accepted
