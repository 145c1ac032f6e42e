use Rattle.commands.proofs.Public.{planned_is_checked}
use Rattle.commands.proofs.laws.planned_is_checked.Goals as goal

pub returns : goal.returns
returns c = planned_is_checked
