use Rattle.reasons.proofs.Public.{closed_by_kinds}
use Rattle.reasons.proofs.laws.closed_by_kinds.Goals as goal

pub returns : goal.returns
returns c = closed_by_kinds
