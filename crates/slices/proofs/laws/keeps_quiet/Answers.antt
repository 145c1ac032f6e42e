use Rattle.slices.proofs.Public.{keeps_quiet}
use Rattle.slices.proofs.laws.keeps_quiet.Goals as goal

pub returns : goal.returns
returns c = keeps_quiet
