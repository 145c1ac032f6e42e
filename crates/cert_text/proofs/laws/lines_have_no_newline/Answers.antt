use Rattle.cert_text.proofs.Public.{lines_have_no_newline}
use Rattle.cert_text.proofs.laws.lines_have_no_newline.Goals as goal

pub returns : goal.returns
returns c = lines_have_no_newline
