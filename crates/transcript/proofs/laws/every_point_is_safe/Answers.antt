use Rattle.transcript.proofs.Public.{every_point_is_safe}
use Rattle.transcript.proofs.laws.every_point_is_safe.Goals as goal

pub returns : goal.returns
returns c = every_point_is_safe
