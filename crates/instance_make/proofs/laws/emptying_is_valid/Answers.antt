use Rattle.instance_make.proofs.Valid.{emptying_is_valid}
use Rattle.instance_make.proofs.laws.emptying_is_valid.Goals as goal

pub returns : goal.returns
returns c = emptying_is_valid
