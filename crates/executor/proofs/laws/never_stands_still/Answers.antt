use Rattle.executor.proofs.Public.{never_stands_still}
use Rattle.executor.proofs.laws.never_stands_still.Goals as goal

pub returns : goal.returns
returns c = never_stands_still
