use Rattle.parts.proofs.Public.{parts_are_valid}
use Rattle.parts.proofs.laws.parts_are_valid.Goals as goal

pub returns : goal.returns
returns c = parts_are_valid
