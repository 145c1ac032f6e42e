use Rattle.domains.proofs.Public.{filter_is_fewer}
use Rattle.domains.proofs.laws.filter_is_fewer.Goals as goal

pub returns : goal.returns
returns c = filter_is_fewer
