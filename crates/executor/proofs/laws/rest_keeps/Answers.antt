use Rattle.executor.proofs.Public.{rest_keeps}
use Rattle.executor.proofs.laws.rest_keeps.Goals as goal

pub returns : goal.returns
returns c = rest_keeps
