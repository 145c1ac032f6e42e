use Rattle.repair.proofs.Public.{rest_is_sound}
use Rattle.repair.proofs.laws.rest_is_sound.Goals as goal

pub returns : goal.returns
returns c = rest_is_sound
