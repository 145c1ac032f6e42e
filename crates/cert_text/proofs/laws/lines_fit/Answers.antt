use Rattle.cert_text.proofs.Public.{lines_fit}
use Rattle.cert_text.proofs.laws.lines_fit.Goals as goal

pub returns : goal.returns
returns c = lines_fit
