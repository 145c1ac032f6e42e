use Rattle.transcript.proofs.Public.{always_ends}
use Rattle.transcript.proofs.laws.always_ends.Goals as goal

pub returns : goal.returns
returns c = always_ends
