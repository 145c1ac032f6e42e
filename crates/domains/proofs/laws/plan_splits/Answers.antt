use Rattle.domains.proofs.Public.{plan_splits}
use Rattle.domains.proofs.laws.plan_splits.Goals as goal

pub returns : goal.returns
returns c = plan_splits
