use Rattle.std.proofs.Common.{◌≡◌, take}
use Rattle.domains.specs.Prelude.{lowest as lowest_of, stays}
use Rattle.domains.proofs.MeasureLemmas.{passed}
use Rattle.domains.proofs.measure.lowest.Given as goal

abbrev pub invariant-loop-row : goal.invariant-loop-row
invariant-loop-row g l =
    l.best ≡ lowest_of (g.M.Measure.value_of l.m) (passed (stays l.left_out) l.domain.idle (take l.row-index l.row-items))
