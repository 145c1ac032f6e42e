use Rattle.slices.proofs.Public.{held_is_small}
use Rattle.slices.proofs.laws.held_is_small.Goals as goal

pub returns : goal.returns
returns c = held_is_small
