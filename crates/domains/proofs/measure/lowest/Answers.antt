use Rattle.std.proofs.Common.{◌≡◌, ◌∙◌, Some, arith}
use Rattle.domains.specs.Prelude.{no_row, stays}
use Rattle.domains.proofs.RowLemmas.{Climbs-at}
use Rattle.domains.proofs.MeasureLemmas.{lowest_more, lowest_no_more, lowest_at_floor, same_some}
use Rattle.domains.proofs.measure.lowest.Goals as goal
use Rattle.domains.proofs.measure.lowest.Goals.{in-Some, in_default}

pub without-requires : goal.without-requires
without-requires g c = (Climbs-at 0 c.rows-row-items.result.now c.loop-row.row-index no_row c.rows-row-items.ensures.climbs (omega arith)).1

pub returns-then-eq : goal.returns-then-eq
returns-then-eq g c =
    let full : c.loop-row.best ≡ Some c.floor-floor.result = same_some c.loop-row.best c.floor-floor.result c.if-eq.ensures in
    full
    ∙ lowest_at_floor (g.M.Measure.value_of c.args.m.now) (stays c.args.left_out) c.args.domain.now c.loop-row.row-index c.floor-floor.result
    (rw c.floor-floor.ensures (g.met.M.Measure.above_floor c.args.m.now))
    (rw (← c.rows-row-items.ensures.items, ← c.loop-row.invariant) full)

pub loop-row-preserved : goal.loop-row-preserved
loop-row-preserved g c =
    let f = g.M.Measure.value_of c.args.m.now in
    let rows = c.rows-row-items.result.now in
    elim c.match-without.branch [
      | in-Some w ↦
          w.best-is
          ∙ w.lower-best.ensures
          ∙ lowest_more f (stays c.args.left_out) c.args.domain.now.idle rows c.loop-row.row-index no_row c.loop-row.best (omega arith) c.loop-row.invariant
          w.in-Some.left w.least_of_row.result w.in-Some.ensures.set w.least_of_row.ensures
      | in_default w ↦
          w.best-is
          ∙ lowest_no_more f (stays c.args.left_out) c.args.domain.now.idle rows c.loop-row.row-index no_row c.loop-row.best (omega arith) c.loop-row.invariant
          w.in_default.ensures.set
    ]
