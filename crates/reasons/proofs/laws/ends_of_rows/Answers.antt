use Rattle.reasons.proofs.Public.{ends_of_rows}
use Rattle.reasons.proofs.laws.ends_of_rows.Goals as goal

pub returns : goal.returns
returns c = ends_of_rows
