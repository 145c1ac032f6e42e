use Rattle.slices.proofs.Public.{over_as_planned}
use Rattle.slices.proofs.laws.over_as_planned.Goals as goal

pub returns : goal.returns
returns c = over_as_planned
