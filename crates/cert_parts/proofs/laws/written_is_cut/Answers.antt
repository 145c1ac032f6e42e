use Rattle.cert_parts.proofs.Public.{written_is_cut}
use Rattle.cert_parts.proofs.laws.written_is_cut.Goals as goal

pub returns : goal.returns
returns c = written_is_cut
