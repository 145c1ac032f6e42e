use Rattle.cert_text.proofs.Public.{readings_are_exact}
use Rattle.cert_text.proofs.laws.readings_are_exact.Goals as goal

pub returns : goal.returns
returns c = readings_are_exact
