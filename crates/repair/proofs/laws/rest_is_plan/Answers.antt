use Rattle.repair.proofs.Public.{rest_is_plan}
use Rattle.repair.proofs.laws.rest_is_plan.Goals as goal

pub returns : goal.returns
returns c = rest_is_plan
