use Rattle.slices.proofs.Public.{matters_quiet}
use Rattle.slices.proofs.laws.matters_quiet.Goals as goal

pub returns : goal.returns
returns c = matters_quiet
