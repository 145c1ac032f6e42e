use Rattle.domains.proofs.Public.{least_of_each}
use Rattle.domains.proofs.laws.least_of_each.Goals as goal

pub returns : goal.returns
returns c = least_of_each
