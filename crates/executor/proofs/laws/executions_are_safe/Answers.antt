use Rattle.executor.proofs.Public.{executions_are_safe}
use Rattle.executor.proofs.laws.executions_are_safe.Goals as goal

pub returns : goal.returns
returns c = executions_are_safe
