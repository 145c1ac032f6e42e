-- What crates above may cite. All else under proofs/ is private.
use Rattle.cert_read.specs.Laws.{CertificatesReadBack}
use Rattle.cert_read.proofs.BackLemmas.{read_back}

pub certificates_read_back : CertificatesReadBack
certificates_read_back = read_back
