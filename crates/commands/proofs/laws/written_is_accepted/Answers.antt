use Rattle.commands.proofs.Public.{written_is_accepted}
use Rattle.commands.proofs.laws.written_is_accepted.Goals as goal

pub returns : goal.returns
returns c = written_is_accepted
