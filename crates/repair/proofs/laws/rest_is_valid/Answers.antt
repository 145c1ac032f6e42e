use Rattle.repair.proofs.Public.{rest_is_valid}
use Rattle.repair.proofs.laws.rest_is_valid.Goals as goal

pub returns : goal.returns
returns c = rest_is_valid
