use Rattle.domains.proofs.Public.{plan_stays}
use Rattle.domains.proofs.laws.plan_stays.Goals as goal

pub returns : goal.returns
returns c = plan_stays
