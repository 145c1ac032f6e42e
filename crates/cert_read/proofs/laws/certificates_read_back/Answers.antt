use Rattle.cert_read.proofs.Public.{certificates_read_back}
use Rattle.cert_read.proofs.laws.certificates_read_back.Goals as goal

pub returns : goal.returns
returns c = certificates_read_back
