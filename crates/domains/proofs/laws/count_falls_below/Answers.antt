use Rattle.domains.proofs.Public.{count_falls_below}
use Rattle.domains.proofs.laws.count_falls_below.Goals as goal

pub returns : goal.returns
returns c = count_falls_below
