use Rattle.parts.proofs.Public.{unions_are_valid}
use Rattle.parts.proofs.laws.unions_are_valid.Goals as goal

pub returns : goal.returns
returns c = unions_are_valid
