use Rattle.executor.proofs.Public.{every_run_is_safe}
use Rattle.executor.proofs.laws.every_run_is_safe.Goals as goal

pub returns : goal.returns
returns c = every_run_is_safe
