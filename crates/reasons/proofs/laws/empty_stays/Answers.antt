use Rattle.reasons.proofs.Public.{empty_stays}
use Rattle.reasons.proofs.laws.empty_stays.Goals as goal

pub returns : goal.returns
returns c = empty_stays
