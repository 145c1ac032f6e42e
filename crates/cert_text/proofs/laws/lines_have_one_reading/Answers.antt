use Rattle.cert_text.proofs.Public.{lines_have_one_reading}
use Rattle.cert_text.proofs.laws.lines_have_one_reading.Goals as goal

pub returns : goal.returns
returns c = lines_have_one_reading
