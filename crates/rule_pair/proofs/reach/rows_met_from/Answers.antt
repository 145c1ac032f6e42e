use Rattle.rule_pair.proofs.Prelude.{arith, no_row, slice_index_or, ◌<◌}
use Rattle.rule_pair.specs.Prelude.{place_index}
use Rattle.rule_pair.proofs.ReachLemmas.{late_from}
use Rattle.rule_pair.proofs.reach.rows_met_from.Goals as goal

pub returns-then-number_of-ends : goal.returns-then-number_of-ends
returns-then-number_of-ends c =
    let past : c.args.ends.now.past < place_index (slice_index_or c.args.rows.now c.loop-i.i no_row).place = omega (arith, c.number_of.ensures, c.if-number_of-ends.true) in
    late_from c.args.table.now c.args.part c.args.from c.args.number c.args.ends.now c.args.rows.now c.loop-i.i c.requires.climbs c.requires.until c.requires.ends (omega arith) past c.loop-i.invariant
