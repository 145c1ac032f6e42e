use Rattle.domains.proofs.Public.{lost_is_restored}
use Rattle.domains.proofs.laws.lost_is_restored.Goals as goal

pub returns : goal.returns
returns c = lost_is_restored
