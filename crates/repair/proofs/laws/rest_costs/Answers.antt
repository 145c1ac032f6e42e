use Rattle.repair.proofs.Public.{rest_costs}
use Rattle.repair.proofs.laws.rest_costs.Goals as goal

pub returns : goal.returns
returns c = rest_costs
