use Rattle.domains.proofs.Public.{seen_by_rows}
use Rattle.domains.proofs.laws.seen_by_rows.Goals as goal

pub returns : goal.returns
returns c = seen_by_rows
