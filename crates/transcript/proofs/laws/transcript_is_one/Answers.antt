use Rattle.transcript.proofs.Public.{transcript_is_one}
use Rattle.transcript.proofs.laws.transcript_is_one.Goals as goal

pub returns : goal.returns
returns c = transcript_is_one
