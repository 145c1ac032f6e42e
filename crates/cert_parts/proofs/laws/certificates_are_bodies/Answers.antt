use Rattle.cert_parts.proofs.Public.{certificates_are_bodies}
use Rattle.cert_parts.proofs.laws.certificates_are_bodies.Goals as goal

pub returns : goal.returns
returns c = certificates_are_bodies
