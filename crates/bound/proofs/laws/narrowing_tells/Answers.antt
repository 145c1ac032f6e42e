use Rattle.bound.proofs.Public.{narrowing_tells}
use Rattle.bound.proofs.laws.narrowing_tells.Goals as goal

pub returns : goal.returns
returns c = narrowing_tells
