use Rattle.cert_check.proofs.Public.{certificate_is_accepted}
use Rattle.cert_check.proofs.laws.certificate_is_accepted.Goals as goal

pub returns : goal.returns
returns c = certificate_is_accepted
