use Rattle.std.proofs.Common.{◌≡◌, Some, ap, sym, arith, ◌∙◌}
use Rattle.cluster.specs.declared.choices.Choice.TheVariants.{Act}
use Rattle.domains.proofs.MeasureLemmas.{first_least, lowest_row}
use Rattle.domains.proofs.measure.least_of_row.Goals as goal
use Rattle.domains.proofs.measure.least_of_row.Goals.{then-row-via-then-row, then-row-via-else-row+else-climbs+then-first-floor, then-row-via-else-row+then-climbs}

pub returns-then-row : goal.returns-then-row
returns-then-row g c =
    let f = g.M.Measure.value_of c.args.m.now in
    let row = c.args.row in
    let least = first_least f row (g.met.M.Measure.least_at_ends c.args.m.now) c.requires.holds_one in
    ap Some c.value_at-first.ensures ∙ sym (least (elim c.then-row.branch [
      | then-row-via-then-row w ↦ rw (← w.if-row.true) (omega arith)
      | then-row-via-else-row+then-climbs w ↦ w.climbs.ensures w.if-climbs.true row.place row.lo row.hi c.requires.holds_one
      | then-row-via-else-row+else-climbs+then-first-floor w ↦
          let first : f (Act row.place row.lo) ≡ g.M.Measure.floor_of c.args.m.now = sym c.value_at-first.ensures ∙ w.if-first-floor.true ∙ w.floor.ensures in
          rw first (g.met.M.Measure.above_floor c.args.m.now (Act row.place row.hi))
    ]))

pub returns : goal.returns
returns g c =
    ap Some (c.min.ensures ∙ rw (c.value_at-first.ensures, c.value_at-last.ensures))
    ∙ sym (lowest_row (g.M.Measure.value_of c.args.m.now) c.args.row (g.met.M.Measure.least_at_ends c.args.m.now) c.requires.holds_one)
