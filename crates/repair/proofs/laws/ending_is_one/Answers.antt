use Rattle.repair.proofs.Public.{ending_is_one}
use Rattle.repair.proofs.laws.ending_is_one.Goals as goal

pub returns : goal.returns
returns c = ending_is_one
