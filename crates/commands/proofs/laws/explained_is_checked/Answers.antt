use Rattle.commands.proofs.Public.{explained_is_checked}
use Rattle.commands.proofs.laws.explained_is_checked.Goals as goal

pub returns : goal.returns
returns c = explained_is_checked
