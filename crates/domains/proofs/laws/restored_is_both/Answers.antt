use Rattle.domains.proofs.Public.{restored_is_both}
use Rattle.domains.proofs.laws.restored_is_both.Goals as goal

pub returns : goal.returns
returns c = restored_is_both
