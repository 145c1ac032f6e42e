use Rattle.base.proofs.Public.{length}
use Rattle.cert_parts.proofs.FoundLemmas.{IsGoneOver}
use Rattle.cert_parts.proofs.cutting.split_body.Given as goal

abbrev pub invariant-lines : goal.invariant-lines
invariant-lines l = IsGoneOver l.bytes l.rest

abbrev pub decreases-lines : goal.decreases-lines
decreases-lines l = length l.rest
