use Rattle.repair.proofs.Public.{rest_hosts}
use Rattle.repair.proofs.laws.rest_hosts.Goals as goal

pub returns : goal.returns
returns c = rest_hosts
