use Rattle.domains.proofs.Public.{lowest_before}
use Rattle.domains.proofs.laws.lowest_before.Goals as goal

pub returns : goal.returns
returns c = lowest_before
