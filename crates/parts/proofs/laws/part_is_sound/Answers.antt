use Rattle.parts.proofs.Public.{part_is_sound}
use Rattle.parts.proofs.laws.part_is_sound.Goals as goal

pub returns : goal.returns
returns c = part_is_sound
