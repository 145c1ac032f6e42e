use Rattle.cert_parts.proofs.Public.{texts_are_cut_one_way}
use Rattle.cert_parts.proofs.laws.texts_are_cut_one_way.Goals as goal

pub returns : goal.returns
returns c = texts_are_cut_one_way
