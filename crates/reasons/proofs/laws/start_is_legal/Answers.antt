use Rattle.reasons.proofs.Public.{start_is_legal}
use Rattle.reasons.proofs.laws.start_is_legal.Goals as goal

pub returns : goal.returns
returns c = start_is_legal
