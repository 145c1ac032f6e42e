use Rattle.base.proofs.Public.{length}
use Rattle.cert_parts.specs.Cuts.{BeginsWith, OnlyBeginsWith}
use Rattle.cert_parts.proofs.cutting.cut_sections.Given as goal

abbrev pub invariant-sections : goal.invariant-sections
invariant-sections l = record {
  begins : BeginsWith l.bytes l.sections.items l.rest;
  only : OnlyBeginsWith l.bytes l.sections.items l.rest;
}

abbrev pub decreases-sections : goal.decreases-sections
decreases-sections l = length l.rest
