use Rattle.domains.proofs.Public.{parts_are_disjoint}
use Rattle.domains.proofs.laws.parts_are_disjoint.Goals as goal

pub returns : goal.returns
returns c = parts_are_disjoint
