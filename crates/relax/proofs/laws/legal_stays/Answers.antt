use Rattle.relax.proofs.Public.{legal_stays}
use Rattle.relax.proofs.laws.legal_stays.Goals as goal

pub returns : goal.returns
returns c = legal_stays
