-- What crates above may cite. All else under proofs/ is private.
use Rattle.cert_parts.specs.Laws.{CertificatesAreBodies, TextsAreCutOneWay, WrittenIsCut}
use Rattle.cert_parts.proofs.CertificateLemmas.{certificate_body}
use Rattle.cert_parts.proofs.SectionLemmas.{cut_one_way, written_cut}

pub texts_are_cut_one_way : TextsAreCutOneWay
texts_are_cut_one_way = cut_one_way

pub written_is_cut : WrittenIsCut
written_is_cut = written_cut

pub certificates_are_bodies : CertificatesAreBodies
certificates_are_bodies = certificate_body
