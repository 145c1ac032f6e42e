use Rattle.base.proofs.Public.{ℕ, ◌<◌, slice_index_or}
use Rattle.domains.specs.Prelude.{AreCounted, Climbs, staying}
use Rattle.domains.proofs.listing.counted.Given as goal

abbrev pub invariant-loop-i : goal.invariant-loop-i
invariant-loop-i l = record {
  counted : AreCounted l.unfixed l.domains l.i;
  climb : (k : ℕ) → k < l.i → Climbs 0 (slice_index_or l.domains k staying).rows;
}
