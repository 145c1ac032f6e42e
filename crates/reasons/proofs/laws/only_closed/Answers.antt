use Rattle.reasons.proofs.Public.{only_closed}
use Rattle.reasons.proofs.laws.only_closed.Goals as goal

pub returns : goal.returns
returns c = only_closed
