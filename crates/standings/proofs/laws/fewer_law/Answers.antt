use Rattle.standings.proofs.LawLemmas.{fewer_law}
use Rattle.standings.proofs.laws.fewer_law.Goals as goal

pub returns : goal.returns
returns c = fewer_law
