use Rattle.parts.proofs.Public.{union_is_optimal}
use Rattle.parts.proofs.laws.union_is_optimal.Goals as goal

pub returns : goal.returns
returns c = union_is_optimal
