use Rattle.cert_model.proofs.WholeLemmas.{proofs_hold}
use Rattle.cert_model.proofs.laws.proofs_hold.Goals as goal

pub returns : goal.returns
returns c = proofs_hold
