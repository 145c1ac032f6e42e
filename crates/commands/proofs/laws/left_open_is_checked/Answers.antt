use Rattle.commands.proofs.Public.{left_open_is_checked}
use Rattle.commands.proofs.laws.left_open_is_checked.Goals as goal

pub returns : goal.returns
returns c = left_open_is_checked
