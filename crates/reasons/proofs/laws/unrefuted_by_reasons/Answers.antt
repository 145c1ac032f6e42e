use Rattle.reasons.proofs.Public.{unrefuted_by_reasons}
use Rattle.reasons.proofs.laws.unrefuted_by_reasons.Goals as goal

pub returns : goal.returns
returns c = unrefuted_by_reasons
