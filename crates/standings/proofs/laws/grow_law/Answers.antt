use Rattle.standings.proofs.LawLemmas.{grow_law}
use Rattle.standings.proofs.laws.grow_law.Goals as goal

pub returns : goal.returns
returns c = grow_law
