use Rattle.domains.proofs.Public.{parts_cover}
use Rattle.domains.proofs.laws.parts_cover.Goals as goal

pub returns : goal.returns
returns c = parts_cover
