use Rattle.cert_text.proofs.Public.{steps_are_lines}
use Rattle.cert_text.proofs.laws.steps_are_lines.Goals as goal

pub returns : goal.returns
returns c = steps_are_lines
